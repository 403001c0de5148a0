-- The constants of the code are the numbers of the rules.
use Rattle.std.proofs.Common.{◌≡◌, refl}
use Rattle.rules.specs.Limits.{max_text, max_texts}
use Rattle.intake.specs.declared.intake.TheConstants.{MAX_TEXT, MAX_TEXTS}

text_is : MAX_TEXT ≡ max_text
text_is = refl

texts_is : MAX_TEXTS ≡ max_texts
texts_is = refl

-- What the reader's answer says of the job at the place where the reader stood.
use Rattle.std.proofs.Common.{◌≡◌, ℕ, false, List, Some, None, Ok, Err, Option, sym, refl, ap, ◌∙◌, Bor}
use Rattle.rules.specs.declared.fault.Fault.{Fault}
use Rattle.job.specs.declared.record.Placed.{Placed}
use Rattle.job.specs.declared.record.Record.{Record}
use Rattle.job.specs.declared.record.Record.TheVariants.{Pattern, First, Longest, Text}
use Rattle.job.specs.Format.{over, bad, good, step}
use Rattle.job.specs.Record.{entry, as_step, place_in}
use Rattle.job.specs.Texts.{is_text}

module _ (job held : List ℕ) (at next : ℕ) (same : held ≡ job) where
  pub told_some : (o : Option Placed) (p : Placed) → as_step (Ok o) next ≡ step held at → o ≡ Some p → step job at ≡ good (entry p.«record») next
  told_some o p h is = sym (ap (λ j. step j at) same) ∙ sym h ∙ ap (λ x. as_step (Ok x) next) is

  pub told_none : (o : Option Placed) → as_step (Ok o) next ≡ step held at → o ≡ None → step job at ≡ over
  told_none o h is = sym (ap (λ j. step j at) same) ∙ sym h ∙ ap (λ x. as_step (Ok x) next) is

  pub told_bad : (f : Fault) → as_step (Err f) next ≡ step held at → step job at ≡ bad f.refusal
  told_bad f h = sym (ap (λ j. step j at) same) ∙ sym h

pub placed_some : (at : ℕ) (o : Option Placed) (p : Placed) → place_in (Ok o) at ≡ at → o ≡ Some p → p.place ≡ at
placed_some at o p h is = sym (ap (λ x. place_in (Ok x) at) is) ∙ h

-- a record that is no text
pub no_text : (r : Record) → ((x : Bor (List ℕ)) → r ≡ Text x → ⊥) → is_text (entry r) ≡ false
no_text (Pattern x) h = refl
no_text First h = refl
no_text Longest h = refl
no_text (Text x) h = absurd (h x refl)

-- What the plan says of its words and of its start.
use Rattle.std.proofs.Common.{◌≡◌, ℕ, ◌%◌, ◌<◌, ◌≤◌, ◌⊎◌, Option, Some, None, List, length, unwrap_or, inl, inr, refl, arith, sym, subst, lit<}
use Rattle.std.specs.Prelude.{IfSome}
use Rattle.std.proofs.lemmas.List.{get_or_past}
use Rattle.tape_image.specs.Word.{WordValue, IsWord}
use Rattle.tape_image.specs.Plan.{PlanValue, IsPlan}
use Rattle.odt_machine.specs.Machine.{Machine}
use Rattle.host_core.specs.Core.{Core, word_nr, no_word}
use Rattle.line_world.specs.Scene.{Toll}
use Rattle.line_world.specs.Site.{site_of}
use Rattle.line_world.proofs.Frame.{scene}
use Rattle.line_world.proofs.Rows.{IsSite}

lt_or : (i n : ℕ) → (i < n) ⊎ (n ≤ i)
lt_or i n = grind arith

-- what every place of the plan has, also the one past its end
record IsNumbers (w : WordValue) : Type 0 where
  pub even : w.address % 2 ≡ 0
  pub low : w.address < 65536
  pub value : w.value < 65536

numbers : (w : WordValue) → IsWord w → IsNumbers w
numbers w is = record { even = is.even; low = let below = is.below in omega arith; value = is.fits }

word_numbers : (p : PlanValue) (i : ℕ) → IsPlan p → IsNumbers (word_nr p.words i)
word_numbers p i is = elim (lt_or i (length p.words)) [
  | inl below ↦ numbers (word_nr p.words i) (is.each i no_word below)
  | inr past ↦ subst IsNumbers (sym (get_or_past p.words i no_word past)) (record { even = refl; low = lit< tt; value = lit< tt })
]

start_fits : (start : Option ℕ) → IfSome start (λ s. (s % 2 ≡ 0) × (s < 65536)) → (unwrap_or start 0 % 2 ≡ 0) × (unwrap_or start 0 < 65536)
start_fits None h = (refl, lit< tt)
start_fits (Some s) h = h

pub start_even : (p : PlanValue) → IsPlan p → unwrap_or p.start 0 % 2 ≡ 0
start_even p is = (start_fits p.start is.start_even).0

start_low : (p : PlanValue) → IsPlan p → unwrap_or p.start 0 < 65536
start_low p is = (start_fits p.start is.start_even).1

pub plan_site : (m : Machine) (core : Core) (down up : List ℕ) (lost : Toll) (i : ℕ) → IsPlan core.plan → IsSite (site_of (scene m core down up lost) i)
plan_site m core down up lost i is =
    let n = word_numbers core.plan i is in
    record { low = n.low; even = n.even; value = n.value; start_low = start_low core.plan is; start_even = start_even core.plan is }

-- Texts that are said one behind the other.
use Rattle.std.proofs.Common.{ℕ, List, ◌++◌, Option, Some, None, Result, Ok, Err, OnErr, ap, ◌∙◌, subst, append_assoc, arith}
use Rattle.std.proofs.lemmas.List.{length-append}
use Rattle.std.proofs.KnownBytes.{Appends-trans}
use Rattle.byte_io.specs.Output.{WritesProperPrefix}
use Rattle.byte_io.proofs.Fronts.{prefix_behind}
use Rattle.endings.specs.FaultOutput.{StandardError, IsSaidInPart, IsSaidWhole, NoneFailed, OneFailed}

pub on_any_err : {T E : Type 0} (r : Result T E) (P : Type 0) → P → OnErr r P
on_any_err (Ok x) P p = tt
on_any_err (Err e) P p = p

none_failed_twice : (f g h : Option ℕ) → NoneFailed f g → NoneFailed g h → NoneFailed f h
none_failed_twice None g h before behind = tt
none_failed_twice (Some count) g h before behind = subst (λ x. NoneFailed x h) before behind

one_failed_behind : (f g h : Option ℕ) → NoneFailed f g → OneFailed g h → OneFailed f h
one_failed_behind None g h before behind = tt
one_failed_behind (Some count) g h before behind = subst (λ x. OneFailed x h) before behind

-- both were said
pub both_said : (a b d : StandardError) (first second : List ℕ) → IsSaidWhole a b first → IsSaidWhole b d second → IsSaidWhole a d (first ++ second)
both_said a b d first second before behind = record {
  written = Appends-trans a.text b.text d.text first second before.written behind.written;
  none_failed = none_failed_twice a.failures b.failures d.failures before.none_failed behind.none_failed;
}

-- the second was cut
pub cut_behind : (a b d : StandardError) (first second : List ℕ) → IsSaidWhole a b first → IsSaidInPart b d second → IsSaidInPart a d (first ++ second)
cut_behind a b d first second before cut = record {
  written = prefix_behind a.text b.text d.text first second before.written cut.written;
  one_failed = one_failed_behind a.failures b.failures d.failures before.none_failed cut.one_failed;
}

-- the first was cut
part_of : (a b : Option (List ℕ)) (first second : List ℕ) → WritesProperPrefix a b first → WritesProperPrefix a b (first ++ second)
part_of a b first second (left, missing, w) = (
  left ++ second,
  omega (arith, length-append left second, missing),
  record { written = w.written; whole = ap (λ (l : List ℕ). l ++ second) w.whole ∙ append_assoc w.written left second; appended = w.appended },
)

pub cut_before : (a b : StandardError) (first second : List ℕ) → IsSaidInPart a b first → IsSaidInPart a b (first ++ second)
cut_before a b first second cut = record { written = part_of a.text b.text first second cut.written; one_failed = cut.one_failed }

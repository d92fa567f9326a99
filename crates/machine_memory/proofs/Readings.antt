-- The words that read a number, and those that are one address line from another, one more.
use Rattle.std.proofs.Common.{◌≡◌, ℕ, ◌+◌, ◌*◌, ◌<◌, ◌≤◌, Bool, true, false, if◌then◌else◌, List, [], ◌∷◌, ◌++◌, length, get_or, take, refl, arith, ap, ◌∙◌}
use Rattle.std.specs.Prelude.{◌==◌}
use Rattle.std.specs.List.{filter}
use Rattle.std.proofs.lemmas.List.{length-take-le, take_more}
use Rattle.std.proofs.lemmas.List.Elements.{All-filter, filter-append}
use Rattle.std.proofs.lemmas.List.Kept.{AllPairs-filter}
use Rattle.std.proofs.lemmas.List.Sums.{length-filter}
use Rattle.std.proofs.lemmas.List.Sums.{count_by-le-length}
use Rattle.reading_core.specs.Addresses.{AreAddresses, IsAddress, IsRange, addresses_between, addresses_from}
use Rattle.reading_core.proofs.Asking.{one_more_from, range_asked}
use Rattle.machine_memory.specs.Bus.{is_neighbour, neighbours, reading}

abbrev pub only_if : Bool → ℕ → List ℕ
only_if test address = if test then address ∷ [] else []

pub none_reads : (number : ℕ) (addresses : List ℕ) → reading number addresses [] ≡ []
none_reads number [] = refl
none_reads number (address ∷ addresses) = refl

keeps : (test : Bool) (address : ℕ) (xs ys : List ℕ) → xs ≡ ys → (if test then address ∷ xs else xs) ≡ (if test then address ∷ ys else ys)
keeps test address xs ys same = ap (λ t. if test then address ∷ t else t) same

puts : (test : Bool) (address : ℕ) (xs ys : List ℕ) → (if test then address ∷ (xs ++ ys) else xs ++ ys) ≡ (if test then address ∷ xs else xs) ++ ys
puts true address xs ys = refl
puts false address xs ys = refl

one_reads : (number : ℕ) (addresses values : List ℕ) (value : ℕ) → length values < length addresses →
    reading number addresses (values ++ value ∷ []) ≡ reading number addresses values ++ only_if (value == number) (get_or addresses (length values) 0)
one_reads number [] values value low = absurd (omega (arith, low))
one_reads number (address ∷ addresses) [] value low = keeps (value == number) address (reading number addresses []) [] (none_reads number addresses)
one_reads number (address ∷ addresses) (one ∷ values) value low =
    keeps (one == number) address _ _ (one_reads number addresses values value (omega (arith, low)))
    ∙ puts (one == number) address (reading number addresses values) (only_if (value == number) (get_or addresses (length values) 0))

pub next_reads : (number : ℕ) (addresses values : List ℕ) (i d : ℕ) → i < length values → length values ≤ length addresses →
    reading number addresses (take (i + 1) values) ≡ reading number addresses (take i values) ++ only_if (get_or values i d == number) (get_or addresses i 0)
next_reads number addresses values i d low few =
    let all : length (take i values) ≡ i = length-take-le i values (omega (arith, low)) in
    ap (reading number addresses) (take_more values i d low)
    ∙ (one_reads number addresses (take i values) (get_or values i d) (omega (arith, all, low, few))
    ∙ ap (λ k. reading number addresses (take i values) ++ only_if (get_or values i d == number) (get_or addresses k 0)) all)

-- ---- the words around another

pub next_neighbour : (at first n : ℕ) → filter (is_neighbour at) (addresses_from first (n + 1)) ≡ filter (is_neighbour at) (addresses_from first n) ++ filter (is_neighbour at) ((first + 2 * n) ∷ [])
next_neighbour at first n = ap (filter (is_neighbour at)) (one_more_from first n) ∙ filter-append (is_neighbour at) (addresses_from first n) ((first + 2 * n) ∷ [])

last_is : IsAddress 0o157776
last_is = record { even = refl; below = omega arith }

pub to_last : (first : ℕ) → IsAddress first → IsRange first 0o157776
to_last first is = record { from_is = is; to_is = last_is; order = omega (arith, is.even, is.below) }

pub neighbours_asked : (at first : ℕ) → IsAddress first → AreAddresses (neighbours at first)
neighbours_asked at first is =
    let all : List ℕ = addresses_between first 0o157776 in
    let a : AreAddresses all = range_asked first 0o157776 (to_last first is) in record {
      each = All-filter (is_neighbour at) IsAddress all a.each;
      rising = AllPairs-filter (λ (x y : ℕ). x < y) (is_neighbour at) all a.rising;
      few = omega (arith, a.few, length-filter (is_neighbour at) all, count_by-le-length (is_neighbour at) all);
    }

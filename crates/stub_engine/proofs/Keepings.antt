-- A keeper that is given words one after another.
use Rattle.std.proofs.Common.{◌≡◌, ℕ, suc, ◌+◌, ◌-◌, ◌≤◌, List, [], ◌∷◌, ◌++◌, length, take, drop, map, Option, Some, None, refl, arith, ap, sym, subst, ◌∙◌, append_assoc, append-nil, length-append}
use Rattle.std.proofs.lemmas.List.{map-append}
use Rattle.std.proofs.Math.Seq.{take-add, drop-drop}
use Rattle.tape_image.specs.Word.{WordValue}
use Rattle.host_devices.specs.declared.fault.KeepFault.{KeepFault}
use Rattle.host_devices.specs.declared.item.Kept.{Kept}
use Rattle.host_devices.specs.declared.item.Kept.TheVariants.{Word}
use Rattle.engine.specs.Keeping.{AllOrFront, IsKeptBy as IsEngineKeptBy, KeeperCalls, KeepsAllButLast, KeepsEach, LacksLast, keeping}
use Rattle.host_devices.specs.Failures.{CountsFault}
use Rattle.host_devices.proofs.Told.{gains_join, gains_none}
use Rattle.host_devices.specs.Told.{Gains}
use Rattle.engine.proofs.Keepings.{each_join}
use Rattle.stub_engine.specs.Exchanged.{IsGiven}
use Rattle.stub_engine.specs.Keeping.{GainsFront, IsKeptBy, IsToldBy, KeepsFront, words_kept}

take_behind : {A : Type 0} (items more : List A) (k : ℕ) → take (length items + k) (items ++ more) ≡ items ++ take k more
take_behind {A} [] more k = let none : 0 + k ≡ k = omega arith in ap (λ n. take n more) none
take_behind {A} (item ∷ items) more k =
    let one : length (item ∷ items) + k ≡ suc (length items + k) = omega arith in
    ap (λ n. take n (item ∷ (items ++ more))) one ∙ ap (λ rest. item ∷ rest) (take_behind items more k)

front_join : {K : Type 0} (calls : KeeperCalls K Kept) (old next new : K) (items more : List Kept) → KeepsEach calls.keeps old items next → KeepsFront calls more next new → KeepsFront calls (items ++ more) old new
front_join {K} calls old next new items more each (k, less, by) =
    let P : List Kept → Type 0 = λ list. KeepsAllButLast calls old list new in
    let sum : length items + (k + 1) ≡ length items + k + 1 = omega arith in (
      length items + k,
      omega (arith, less, length-append items more),
      subst P (sym (take_behind items more (k + 1)) ∙ ap (λ n. take n (items ++ more)) sum) (record {
        kept = items ++ by.kept;
        last = by.last;
        items_are = ap (λ l. items ++ l) by.items_are ∙ sym (append_assoc items by.kept (by.last ∷ []));
        next = by.next;
        each = each_join calls.keeps old next by.next items by.kept each by.each;
        failing = by.failing;
      }),
    )

kept_join : {K : Type 0} (calls : KeeperCalls K Kept) (fault : Option KeepFault) (old next new : K) (items more : List Kept) → KeepsEach calls.keeps old items next → AllOrFront fault (KeepsEach calls.keeps next more new) (KeepsFront calls more next new)
    → AllOrFront fault (KeepsEach calls.keeps old (items ++ more) new) (KeepsFront calls (items ++ more) old new)
kept_join {K} calls None old next new items more each by = each_join calls.keeps old next new items more each by
kept_join {K} calls (Some fault) old next new items more each by = front_join calls old next new items more each by

-- ---- words

pub words_join : (words : List WordValue) (a b c : ℕ) → a ≤ b → b ≤ c → words_kept words a c ≡ words_kept words a b ++ words_kept words b c
words_join words a b c one two =
    let sum : c - a ≡ (b - a) + (c - b) = omega (arith, one, two) in
    let from : a + (b - a) ≡ b = omega (arith, one) in
    let seam : drop (b - a) (drop a words) ≡ drop b words = drop-drop (b - a) a words ∙ ap (λ n. drop n words) from in
    ap (λ n. map Word (take n (drop a words))) sum
    ∙ (ap (map Word) (take-add (b - a) (c - b) (drop a words) ∙ ap (λ rest. take (b - a) (drop a words) ++ take (c - b) rest) seam)
    ∙ map-append Word (take (b - a) (drop a words)) (take (c - b) (drop b words)))

pub none_kept : (words : List WordValue) (a b : ℕ) → b ≤ a → words_kept words a b ≡ []
none_kept words a b le = let none : b - a ≡ 0 = omega (arith, le) in ap (λ n. map Word (take n (drop a words))) none

-- ---- none

each_begins : {K : Type 0} (keeps : K → Kept → K → Type 0) (keep : K) (words : List WordValue) (from to : ℕ) → to ≤ from → KeepsEach keeps keep (words_kept words from to) keep
each_begins {K} keeps keep words from to le = let P : List Kept → Type 0 = λ items. KeepsEach keeps keep items keep in subst P (sym (none_kept words from to le)) refl

-- ---- two stretches

pub kept_then : {K : Type 0} (calls : KeeperCalls K Kept) (fault : Option KeepFault) (old next new : K) (words : List WordValue) (a b c : ℕ) → a ≤ b → b ≤ c → IsKeptBy calls (keeping (words_kept words a b) None) old next → IsKeptBy calls (keeping (words_kept words b c) fault) next new →
    IsKeptBy calls (keeping (words_kept words a c) fault) old new
kept_then {K} calls fault old next new words a b c one two first by =
    let P : List Kept → Type 0 = λ items. AllOrFront fault (KeepsEach calls.keeps old items new) (KeepsFront calls items old new) in record {
      counted = subst (λ n. CountsFault fault n (calls.failures new)) first.counted by.counted;
      named = by.named;
      each = subst P (sym (words_join words a b c one two)) (kept_join calls fault old next new (words_kept words a b) (words_kept words b c) first.each by.each);
    }

-- nothing was given to it
pub kept_none : {K : Type 0} (calls : KeeperCalls K Kept) (keep : K) (words : List WordValue) (from to : ℕ) → to ≤ from → IsKeptBy calls (keeping (words_kept words from to) None) keep keep
kept_none {K} calls keep words from to le = record { counted = refl; named = tt; each = each_begins calls.keeps keep words from to le }

-- ---- what the keeper tells

told_join : (fault : Option KeepFault) (a b c : Option (List Kept)) (items more : List Kept) → Gains a b items → AllOrFront fault (Gains b c more) (GainsFront b c more) → AllOrFront fault (Gains a c (items ++ more)) (GainsFront a c (items ++ more))
told_join None a b c items more gains by = gains_join a b c items more gains by
told_join (Some fault) a b c items more gains (k, less, front) =
    (length items + k, omega (arith, less, length-append items more), subst (Gains a c) (sym (take_behind items more k)) (gains_join a b c items (take k more) gains front))

pub told_then : (fault : Option KeepFault) (a b c : Option (List Kept)) (words : List WordValue) (i j k : ℕ) → i ≤ j → j ≤ k → Gains a b (words_kept words i j) → IsToldBy (keeping (words_kept words j k) fault) b c → IsToldBy (keeping (words_kept words i k) fault) a c
told_then fault a b c words i j k one two gains by =
    subst (λ items. AllOrFront fault (Gains a c items) (GainsFront a c items)) (sym (words_join words i j k one two)) (told_join fault a b c (words_kept words i j) (words_kept words j k) gains by)

pub told_begins : (a : Option (List Kept)) (words : List WordValue) (i j : ℕ) → j ≤ i → Gains a a (words_kept words i j)
told_begins a words i j le = subst (Gains a a) (sym (none_kept words i j le)) (gains_none a)

-- ---- as the engine has it

take_front : {A : Type 0} (front rest : List A) → take (length front) (front ++ rest) ≡ front
take_front front rest = let none : length front ≡ length front + 0 = omega arith in ap (λ n. take n (front ++ rest)) none ∙ (take_behind front rest 0 ∙ append-nil front)

pub kept_of : {K : Type 0} (calls : KeeperCalls K Kept) (fault : Option KeepFault) (all given : List Kept) (old new : K) → IsGiven fault all given → IsEngineKeptBy calls (keeping given fault) old new → IsKeptBy calls (keeping all fault) old new
kept_of {K} calls None all given old new is by = let P : List Kept → Type 0 = λ items. KeepsEach calls.keeps old items new in record { counted = by.counted; named = by.named; each = subst P is by.kept_by }
kept_of {K} calls (Some fault) all given old new (rest, is) by =
    let P : List Kept → Type 0 = λ items. KeepsAllButLast calls old items new in
    let most = by.kept_by in
    let one : length given ≡ length most.kept + 1 = ap length most.items_are ∙ length-append most.kept (most.last ∷ []) in
    let front : take (length most.kept + 1) all ≡ given = ap (λ n. take n all) (sym one) ∙ (ap (take (length given)) is ∙ take_front given rest) in record {
      counted = by.counted;
      named = by.named;
      each = (length most.kept, (let long = ap length is ∙ length-append given rest in omega (arith, long, one)), subst P (sym front) most);
    }

pub told_of : (fault : Option KeepFault) (all given kept : List Kept) (old new : Option (List Kept)) → IsGiven fault all given → AllOrFront fault (kept ≡ given) (LacksLast given kept) → Gains old new kept → IsToldBy (keeping all fault) old new
told_of None all given kept old new is same gains = subst (Gains old new) (same ∙ is) gains
told_of (Some fault) all given kept old new (rest, is) (last, lacks) gains =
    let whole : all ≡ kept ++ last ∷ rest = is ∙ (ap (λ items. items ++ rest) lacks ∙ append_assoc kept (last ∷ []) rest) in
    let long = ap length whole ∙ length-append kept (last ∷ rest) in
    (length kept, omega (arith, long), subst (Gains old new) (sym (ap (take (length kept)) whole ∙ take_front kept (last ∷ rest))) gains)

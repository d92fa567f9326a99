-- A keeper that is given one thing after another.
use Rattle.std.proofs.Common.{◌≡◌, ℕ, ◌+◌, ◌<◌, List, [], ◌∷◌, ◌++◌, length, take, drop, get_or, Option, Some, None, refl, ap, sym, subst, ◌∙◌, append_assoc}
use Rattle.std.proofs.lemmas.List.{take_more}
use Rattle.host_devices.specs.declared.fault.KeepFault.{KeepFault}
use Rattle.host_devices.specs.Failures.{CountsFault, one_more}
use Rattle.host_devices.specs.Told.{Gains, SaysNothing}
use Rattle.host_devices.proofs.Told.{gains_none, gains_join}
use Rattle.engine.specs.Giving.{Keeps, KeepsFront}
use Rattle.engine.specs.Keeping.{AllOrFront, IsKeptBy, KeeperCalls, KeepsEach, KeptBy, LacksLast, keeping}
use Rattle.engine.proofs.Fronts.{split_at}

pub each_join : {K News : Type 0} (keeps : K → News → K → Type 0) (old next new : K) (items more : List News) → KeepsEach keeps old items next → KeepsEach keeps next more new → KeepsEach keeps old (items ++ more) new
each_join {K} keeps old next new [] more same each = let P : K → Type 0 = λ k. KeepsEach keeps k more new in subst P same each
each_join {K} keeps old next new (item ∷ items) more (between, one, rest) each = (between, one, each_join keeps between next new items more rest each)

-- ---- one thing after another of those that a step gives

pub keeps_none : {K News : Type 0} (calls : KeeperCalls K News) (keeper : K) → Keeps calls keeper [] keeper
keeps_none calls keeper = record { told = gains_none (calls.told keeper); each = refl; counted = refl }

pub keeps_join : {K News : Type 0} (calls : KeeperCalls K News) (old next new : K) (items more : List News) → Keeps calls old items next → Keeps calls next more new → Keeps calls old (items ++ more) new
keeps_join calls old next new items more one two = record {
  told = gains_join (calls.told old) (calls.told next) (calls.told new) items more one.told two.told;
  each = each_join calls.keeps old next new items more one.each two.each;
  counted = two.counted ∙ one.counted;
}

pub keeps_more : {K News : Type 0} (calls : KeeperCalls K News) (old mid new : K) (items : List News) (k : ℕ) (d : News) → k < length items → Keeps calls old (take k items) mid
    → Gains (calls.told mid) (calls.told new) (get_or items k d ∷ []) → calls.keeps mid (get_or items k d) new → calls.failures new ≡ calls.failures mid → Keeps calls old (take (k + 1) items) new
keeps_more {K} {News} calls old mid new items k d less kept told one counted =
    let P : List News → Type 0 = λ all. Keeps calls old all new in
    subst P (sym (take_more items k d less)) (keeps_join calls old mid new (take k items) (get_or items k d ∷ []) kept record { told = told; each = (new, one, refl); counted = counted })

pub keeps_stops : {K News : Type 0} (calls : KeeperCalls K News) (fault : KeepFault) (old mid new : K) (items : List News) (k : ℕ) (d : News) → k < length items → Keeps calls old (take k items) mid
    → SaysNothing (calls.told mid) (calls.told new) → calls.fails mid (get_or items k d) new → calls.failures new ≡ one_more (calls.failures mid) → calls.fault new ≡ Some fault → KeepsFront calls fault old items new
keeps_stops calls fault old mid new items k d less kept nothing failing counted named = record {
  front = take k items;
  item = get_or items k d;
  rest = drop (k + 1) items;
  items_are = split_at items k d less;
  next = mid;
  kept = kept;
  nothing = nothing;
  failing = failing;
  counted = counted;
  named = named;
}

-- ---- what became of the keeper

pub kept_all : {K News : Type 0} (calls : KeeperCalls K News) (old new : K) (items : List News) → KeepsEach calls.keeps old items new → calls.failures new ≡ calls.failures old → IsKeptBy calls (keeping items None) old new
kept_all calls old new items each counted = record { counted = counted; named = tt; kept_by = each }

pub kept_front : {K News : Type 0} (calls : KeeperCalls K News) (fault : KeepFault) (old new : K) (items : List News) (k : KeepsFront calls fault old items new) → IsKeptBy calls (keeping (k.front ++ k.item ∷ []) (Some fault)) old new
kept_front calls fault old new items k = record {
  counted = k.counted ∙ ap one_more k.kept.counted;
  named = k.named;
  kept_by = record { kept = k.front; last = k.item; items_are = refl; next = k.next; each = k.kept.each; failing = k.failing };
}

by_join : {K News : Type 0} (calls : KeeperCalls K News) (fault : Option KeepFault) (old next new : K) (items more : List News) → KeepsEach calls.keeps old items next → KeptBy calls (keeping more fault) next new →
    KeptBy calls (keeping (items ++ more) fault) old new
by_join calls None old next new items more each by = each_join calls.keeps old next new items more each by
by_join calls (Some fault) old next new items more each by = record {
  kept = items ++ by.kept;
  last = by.last;
  items_are = ap (λ l. items ++ l) by.items_are ∙ sym (append_assoc items by.kept (by.last ∷ []));
  next = by.next;
  each = each_join calls.keeps old next by.next items by.kept each by.each;
  failing = by.failing;
}

-- all of some things, and then others
pub kept_join : {K News : Type 0} (calls : KeeperCalls K News) (fault : Option KeepFault) (old next new : K) (items more : List News) → IsKeptBy calls (keeping items None) old next → IsKeptBy calls (keeping more fault) next new →
    IsKeptBy calls (keeping (items ++ more) fault) old new
kept_join calls fault old next new items more one by = record {
  counted = subst (λ count. CountsFault fault count (calls.failures new)) one.counted by.counted;
  named = by.named;
  kept_by = by_join calls fault old next new items more one.kept_by by.kept_by;
}

-- the same of what was kept
pub told_join : {News : Type 0} (fault : Option KeepFault) (items kept more later : List News) → kept ≡ items → AllOrFront fault (later ≡ more) (LacksLast more later) →
    AllOrFront fault (kept ++ later ≡ items ++ more) (LacksLast (items ++ more) (kept ++ later))
told_join None items kept more later same all = ap (λ front. front ++ later) same ∙ ap (λ rest. items ++ rest) all
told_join (Some fault) items kept more later same (last, is) =
    (last, ap (λ front. front ++ more) (sym same) ∙ (ap (λ rest. kept ++ rest) is ∙ sym (append_assoc kept later (last ∷ []))))

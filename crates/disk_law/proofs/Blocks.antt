-- What is written into room that is there lasts once it is synced.
use Rattle.std.proofs.Common.{◌≡◌, ℕ, ◌+◌, List, [], ◌++◌, length, take, drop, Option, Some, None, inl, inr, refl, ap, sym, subst, ◌∙◌, append_assoc}
use Rattle.std.proofs.lemmas.List.{take_at}
use Rattle.record_file.specs.InPlace.{IsFrontOf}
use Rattle.disk_law.specs.Disk.{Disk, Event, InOrder, History, Leaves, Nothing, File, disk_of, more, put, written, file_synced}
use Rattle.disk_law.specs.Laws.{AreAppends, Begun, Wrote, Lasts}
use Rattle.disk_law.specs.Shelf.{Begins, BlocksLast}
use Rattle.disk_law.proofs.Over.{length_both, take_past}

-- what may be left of the file begins with what is synced, what is seen of it with all that was written
record State (d : Disk) (i : ℕ) (text pending : List ℕ) : Type 0 where
  left : (t : List ℕ) → d.may_hold i t → IsFrontOf text t
  seen : (t : List ℕ) → d.holds i t → IsFrontOf (text ++ pending) t

-- bytes that are put behind a text leave it
put_behind : (text u bytes : List ℕ) (m : ℕ) → IsFrontOf text u → IsFrontOf text (put (length text + m) bytes u)
put_behind text u bytes m (rest, is) = (
  take m rest ++ (bytes ++ drop ((length text + m) + length bytes) u),
  sym (append_assoc text (take m rest) (bytes ++ drop ((length text + m) + length bytes) u))
      ∙ ap (λ l. l ++ (bytes ++ drop ((length text + m) + length bytes) u)) (sym (take_past text rest m) ∙ ap (take (length text + m)) is),
)

wrote : (d : Disk) (i : ℕ) (text pending bytes : List ℕ) → State d i text pending → State (written InOrder d i (length (text ++ pending)) bytes) i text (pending ++ bytes)
wrote d i text pending bytes state = record { left = left; seen = seen }
  where
    left : (t : List ℕ) → (written InOrder d i (length (text ++ pending)) bytes).may_hold i t → IsFrontOf text t
    left t (inl may) = state.left t may
    left t (inr (same, u, may, (front, rest, parts, is, long))) =
        subst (IsFrontOf text) (sym is) (subst (λ n. IsFrontOf text (put n front u)) (sym (length_both text pending)) (put_behind text u front (length pending) (state.left u may)))

    seen : (t : List ℕ) → (written InOrder d i (length (text ++ pending)) bytes).holds i t → IsFrontOf (text ++ (pending ++ bytes)) t
    seen t (inl (same, u, has, is)) = let front = state.seen u has in (
      drop (length (text ++ pending) + length bytes) u,
      ap (λ l. l ++ drop (length (text ++ pending) + length bytes) u) (sym (append_assoc text pending bytes))
          ∙ append_assoc (text ++ pending) bytes (drop (length (text ++ pending) + length bytes) u)
          ∙ ap (λ l. l ++ (bytes ++ drop (length (text ++ pending) + length bytes) u)) (sym (take_at (text ++ pending) front.0 (length (text ++ pending)) refl) ∙ ap (take (length (text ++ pending))) front.1)
          ∙ sym is,
    )
    seen t (inr (other, has)) = absurd (other refl)

lasts : (d : Disk) (i : ℕ) (text pending : List ℕ) → State d i text pending → State (file_synced d i) i (text ++ pending) []
lasts d i text pending state = record {
  left = λ t may. state.seen t (may.1 refl);
  seen = λ t has. let front = state.seen t has in (front.0, append_assoc (text ++ pending) [] front.0 ∙ front.1);
}

after_appends : (name first : List ℕ) (history : History) (i : ℕ) (text pending : List ℕ) (events : List Event) → history.kind ≡ InOrder → Begins (disk_of history) name i first
    → AreAppends i first text pending events → State (disk_of (more history events)) i text pending
after_appends name first history i text pending events kind begins Begun = record {
  left = begins.left;
  seen = λ t has. let front = begins.seen t has in (front.0, append_assoc first [] front.0 ∙ front.1);
}
after_appends name first history i text pending events kind begins (Wrote text' pending' bytes earlier appends) =
    let before = after_appends name first history i text' pending' earlier kind begins appends in
    subst (λ k. State (written k (disk_of (more history earlier)) i (length (text' ++ pending')) bytes) i text' (pending' ++ bytes)) (sym kind)
    (wrote (disk_of (more history earlier)) i text' pending' bytes before)
after_appends name first history i text pending events kind begins (Lasts text' pending' earlier appends) =
    lasts (disk_of (more history earlier)) i text' pending' (after_appends name first history i text' pending' earlier kind begins appends)

named : (name first : List ℕ) (history : History) (i : ℕ) (text pending : List ℕ) (events : List Event) → Begins (disk_of history) name i first
    → AreAppends i first text pending events → (x : Option ℕ) → (disk_of (more history events)).may_lead name x → x ≡ Some i
named name first history i text pending events begins Begun x may = begins.named x may
named name first history i text pending events begins (Wrote text' pending' bytes earlier appends) x may = named name first history i text' pending' earlier begins appends x may
named name first history i text pending events begins (Lasts text' pending' earlier appends) x may = named name first history i text' pending' earlier begins appends x may

pub blocks_last : BlocksLast
blocks_last name first text pending history i events kind begins appends left leaves = by left leaves
  where
    none : let x : Option ℕ = None in x ≡ Some i → ⊥
    none e = cc e

    same : (j : ℕ) → Some j ≡ Some i → j ≡ i
    same j e = cc e

    state : State (disk_of (more history events)) i text pending
    state = after_appends name first history i text pending events kind begins appends

    by : (left : Option (List ℕ)) → Leaves (disk_of (more history events)) name left → (t : List ℕ) × (left ≡ Some t) × IsFrontOf text t
    by _ (Nothing may) = absurd (none (named name first history i text pending events begins appends None may))
    by _ (File j t may has) =
        (t, refl, state.left t (subst (λ k. (disk_of (more history events)).may_hold k t) (same j (named name first history i text pending events begins appends (Some j) may)) has))

-- The two ways to begin a record, one behind the other, and what the file is let go by.
use Rattle.std.proofs.Common.{◌≡◌, ℕ, List, [], ◌++◌, zero, suc, ◌+◌, ◌-◌, ◌<◌, ◌≤◌, length, take, append-nil, arith, Bool, Option, Some, None, Result, Ok, Err, refl, ap, subst, sym, ◌∷◌, ◌∙◌}
use Rattle.byte_io.specs.Input.{IsTaken}
use Rattle.std.specs.Io.KnownBytes.{Keeps}
use Rattle.std.proofs.Math.Seq.{take-append-add}
use Rattle.std.proofs.lemmas.List.{take_all}
use Rattle.std.specs.Prelude.{IfSome, MatchOption, is_some, option_map}
use Rattle.std.specs.Result.{IfOk, IfErr}
use Rattle.host_devices.proofs.Told.{tells_join, tells_none}
use Rattle.record_file.specs.Beginning.{Course, Replaced, GivenUp, course, IsBeside, Whole, Unsynced, NotRenamed, Stopped, IsLetGo, IsWrittenOver, IsNotWrittenOver, IsBegun, Beside, InPlace, IsNotBegun, NotBeside, NotInPlace, IsRecordClosed}
use Rattle.host_devices.specs.Told.{HasAsked}
use Rattle.record_file.specs.DiskStep.{DiskStep}
use Rattle.record_file.specs.Holding.{IsHolding}
use Rattle.record_file.specs.Known.{Known, known_as, known_of, kind_of}
use Rattle.record_file.specs.Reading.{kind_after, IsRead, IsReadOf, Held, Absent, IsNotRead, IsWayFound, LetGo}
use Rattle.record_file.specs.declared.held_file.HeldFile.{HeldFile}
use Rattle.record_file.specs.declared.made.Made.{Made}
use Rattle.record_file.specs.declared.made.Made.TheVariants.{Before}
use Rattle.record_file.specs.declared.old_record.Writable.{Writable}
use Rattle.record_file.specs.declared.old_record.Writable.TheVariants.{No}
use Rattle.record_file.specs.declared.record_fault.RecordFault.{RecordFault}

-- what is known of a file that is held, where one is
pub known : {T : Type 0} (P : Known → Type 0) (Q : Type 0) (written : T → Option (List ℕ)) (before : Option (HeldFile T)) (held : HeldFile T) → Some held ≡ before
    → P (known_of written held) → MatchOption (option_map (known_of written) before) Q P
known P Q written before held is p = subst (λ b. MatchOption (option_map (known_of written) b) Q P) is p

pub begun_beside : {K : Type 0} (name text : List ℕ) (known : Known) (after : Made) (a b : Option (List DiskStep)) (kept : Option K) (keeper : K)
    → kept ≡ Some keeper → HasAsked a b (IsBeside name text known.made (course {E = RecordFault} is_some (Ok kept)) after) → HasAsked a b (IsBegun name known text)
begun_beside name text known after a b kept keeper is h =
    (h.0, h.1, Beside after h.0 (subst (λ k. IsBeside name text known.made (course {E = RecordFault} is_some (Ok k)) after h.0) is h.2))

pub begun_in_place : {K : Type 0} (name text : List ℕ) (known now : Known) (a b c : Option (List DiskStep)) (kept : Option K)
    → kept ≡ None → now.device ≡ known.device → now.written ≡ known.written → HasAsked a b (IsBeside name text known.made (course {E = RecordFault} is_some (Ok kept)) now.made)
    → HasAsked b c (IsWrittenOver name now.made now.written text now.device) → HasAsked a c (IsBegun name known text)
begun_in_place name text known now a b c kept is same untouched h w = (
  h.0 ++ w.0,
  tells_join a b c h.0 w.0 h.1 w.1,
  InPlace now.made h.0 w.0 (subst (λ k. IsBeside name text known.made (course {E = RecordFault} is_some (Ok k)) now.made h.0) is h.2)
      (subst (λ x. IsWrittenOver name now.made x text known.device w.0) untouched
      (subst (λ d. IsWrittenOver name now.made now.written text d w.0) same w.2)),
)

pub not_begun_in_place : {K : Type 0} (name text : List ℕ) (known now : Known) (a b c : Option (List DiskStep)) (kept : Option K)
    → kept ≡ None → now.written ≡ known.written → HasAsked a b (IsBeside name text known.made (course {E = RecordFault} is_some (Ok kept)) now.made)
    → HasAsked b c (IsNotWrittenOver name now.made now.written text) → HasAsked a c (IsNotBegun name known text)
not_begun_in_place name text known now a b c kept is untouched h w = (
  h.0 ++ w.0,
  tells_join a b c h.0 w.0 h.1 w.1,
  NotInPlace now.made h.0 w.0 (subst (λ k. IsBeside name text known.made (course {E = RecordFault} is_some (Ok k)) now.made h.0) is h.2)
      (subst (λ x. IsNotWrittenOver name now.made x text w.0) untouched w.2),
)

pub not_begun_beside : (name text : List ℕ) (known : Known) (after : Made) (a b c : Option (List DiskStep)) → HasAsked a b (IsBeside name text known.made GivenUp after)
    → HasAsked b c (IsLetGo name after) → HasAsked a c (IsNotBegun name known text)
not_begun_beside name text known after a b c h l = (h.0 ++ l.0, tells_join a b c h.0 l.0 h.1 l.1, NotBeside after h.0 l.0 h.2 l.2)

-- what holds of each outcome of a part holds of it with what is known of the file
pub each_ok : {A E : Type 0} (P Q : A → Type 0) (result : Result A E) → ((value : A) → P value → Q value) → IfOk result P → IfOk result Q
each_ok P Q (Ok value) f p = f value p
each_ok P Q (Err fault) f p = tt

pub each_err : {A E X Y : Type 0} (result : Result A E) → (X → Y) → IfErr result (λ _. X) → IfErr result (λ _. Y)
each_err (Ok value) f x = tt
each_err (Err fault) f x = f x

-- ---- reading

pub none_known : {T : Type 0} (P : Known → Type 0) (Q : Type 0) (written : T → Option (List ℕ)) (before : Option (HeldFile T)) → None ≡ before → Q
    → MatchOption (option_map (known_of written) before) Q P
none_known P Q written before is q = subst (λ b. MatchOption (option_map (known_of written) b) Q P) is q

pub read_none : {T : Type 0} (name text : List ℕ) (a b : Option (List DiskStep)) (found : Option (HeldFile T)) (known : Option Known) → found ≡ None → text ≡ []
    → HasAsked a b (IsHolding name (option_map kind_of found)) → HasAsked a b (IsRead name (record { text = text; writable = No }) known known)
read_none name text a b found known is empty h = (h.0, h.1, Absent h.0 (subst (λ f. IsHolding name (option_map kind_of f) h.0) is h.2) empty refl)

-- reading changes no device into a file
same_device : (text : List ℕ) (kind : Made × Bool) → (kind_after text kind).1 ≡ kind.1
same_device [] kind = refl
same_device (byte ∷ text) kind = refl

pub read_some : {T : Type 0} (name text : List ℕ) (writable : Writable) (written : T → Option (List ℕ)) (a b c : Option (List DiskStep)) (found : Option (HeldFile T))
    (before : Option Known) (held after : HeldFile T) → found ≡ Some held → kind_of after ≡ kind_after text (kind_of held)
    → HasAsked a b (IsHolding name (option_map kind_of found)) → HasAsked b c (IsWayFound name after.device writable)
    → HasAsked a c (IsRead name (record { text = text; writable = writable }) before (Some (known_of written after)))
read_some name text writable written a b c found before held after is kind h w = (
  h.0 ++ w.0,
  tells_join a b c h.0 w.0 h.1 w.1,
  subst (λ k. IsRead name (record { text = text; writable = writable }) before (Some (known_as k (written after.file))) (h.0 ++ w.0)) (sym kind)
      (Held (kind_of held) (written after.file) h.0 w.0 (subst (λ f. IsHolding name (option_map kind_of f) h.0) is h.2)
      (subst (λ device. IsWayFound name device writable w.0) (ap (λ k. k.1) kind ∙ same_device text (kind_of held)) w.2)),
)

front_of : (n : ℕ) (text rest : List ℕ) → length text ≤ n → (length text < n → rest ≡ []) → text ≡ take n (text ++ rest)
front_of n text rest within end = by_more (n - length text) (omega (arith, within)) where
  by_more : (m : ℕ) → n ≡ length text + m → text ≡ take n (text ++ rest)
  by_more zero is =
      subst (λ k. text ≡ take k (text ++ rest)) (sym is) (sym (take-append-add text rest 0 ∙ append-nil text))
  by_more (suc m) is =
      subst (λ r. text ≡ take n (text ++ r)) (sym (end (omega (arith, is)))) (sym (ap (take n) (append-nil text) ∙ take_all n text within))

-- what was read of a file is what its name led to
pub read_of : (holds unread after : Option (List ℕ)) (text : List ℕ) → Keeps holds unread → IsTaken unread after 1048577 text → IsReadOf holds text
read_of None unread after text k t = tt
read_of (Some all) None after text k t = absurd k
read_of (Some all) (Some left) None text k t = absurd t.consumed
read_of (Some all) (Some left) (Some rest) text k t = front_of 1048577 text rest t.within t.to_end ∙ ap (take 1048577) (sym t.consumed ∙ k)

-- what holds of a file that was found
pub of_found : {T : Type 0} (P : T → Type 0) (found : Option T) (file : T) → found ≡ Some file → IfSome found P → P file
of_found P found file is h = subst (λ f. IfSome f P) is h

pub unread : {T : Type 0} (name : List ℕ) (a b c : Option (List DiskStep)) (found : Option (HeldFile T)) (held after : HeldFile T) → found ≡ Some held
    → kind_of after ≡ kind_of held → HasAsked a b (IsHolding name (option_map kind_of found)) → HasAsked b c (IsLetGo name after.made) → HasAsked a c (IsNotRead name)
unread name a b c found held after is kind h l = (
  h.0 ++ l.0,
  tells_join a b c h.0 l.0 h.1 l.1,
  LetGo (kind_of held) h.0 l.0 (subst (λ f. IsHolding name (option_map kind_of f) h.0) is h.2)
      (subst (λ k. IsLetGo name k.0 l.0) kind l.2),
)

-- ---- what remains

beside_remains : (name text : List ℕ) (made : Made) (way : Course) (after : Made) (steps : List DiskStep) → IsBeside name text made way after steps
    → way ≡ Replaced → after ≡ Before
beside_remains name text made way after steps (Whole before left folder l f) is = refl
beside_remains name text made way after steps (Unsynced before left folder l) is = refl
beside_remains name text made way after steps (NotRenamed same l f) is = absurd (cc is)
beside_remains name text made way after steps (Stopped same l) is = absurd (cc is)

-- a new record in the old one's place leaves that as one that was there
pub replaced_remains : {K : Type 0} (name text : List ℕ) (made after : Made) (a b : Option (List DiskStep)) (kept : Option K) (keeper : K) → kept ≡ Some keeper
    → HasAsked a b (IsBeside name text made (course {E = RecordFault} is_some (Ok kept)) after) → after ≡ Before
replaced_remains name text made after a b kept keeper is h =
    beside_remains name text made (course {E = RecordFault} is_some (Ok kept)) after h.0 h.2 (ap (λ k. course {E = RecordFault} is_some (Ok k)) is)

-- ---- closing

pub closed_none : {T : Type 0} (name : List ℕ) (written : T → Option (List ℕ)) (a : Option (List DiskStep)) (before : Option (HeldFile T)) → before ≡ None
    → HasAsked a a (IsRecordClosed name (option_map (known_of written) before))
closed_none name written a before is = subst (λ b. HasAsked a a (IsRecordClosed name (option_map (known_of written) b))) (sym is) ([], tells_none a, refl)

pub closed_held : {T : Type 0} (name : List ℕ) (written : T → Option (List ℕ)) (a b : Option (List DiskStep)) (before : Option (HeldFile T)) (held : HeldFile T)
    → before ≡ Some held → HasAsked a b (IsLetGo name held.made) → HasAsked a b (IsRecordClosed name (option_map (known_of written) before))
closed_held name written a b before held is h = subst (λ x. HasAsked a b (IsRecordClosed name (option_map (known_of written) x))) (sym is) h

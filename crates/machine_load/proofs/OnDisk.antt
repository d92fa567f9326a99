-- What the disk of a record was asked, by one call.
use Rattle.std.proofs.Common.{◌≡◌, ℕ, List, [], Option, Some, None, Result, Ok, Err, refl, sym, subst, ◌∙◌}
use Rattle.std.specs.Prelude.{MatchOption, OnOk, OnErr, IsSome, option_map}
use Rattle.std.specs.Result.{IfOk, IfErr}
use Rattle.host_devices.proofs.Told.{tells_none}
use Rattle.record_file.specs.Beginning.{IsBegun, IsNotBegun, Remains}
use Rattle.host_devices.specs.Told.{HasAsked}
use Rattle.record_file.specs.DiskStep.{DiskStep}
use Rattle.record_file.specs.Known.{IsNoDevice, IsUntouched, Known}
use Rattle.record_file.specs.Reading.{IsRead, IsReadOf, IsNotRead, found_in}
use Rattle.record_file.specs.declared.old_record.OldRecord.{OldRecord}
use Rattle.record_file.specs.declared.record_fault.RecordFault.{RecordFault}
use Rattle.machine_load.specs.RecordDisk.{RecordDisk, FileKnown, IsReadAnswered, IsBegunOf, IsNotBegunOf, IsBeginAnswered}

none_mapped : {A B : Type 0} (f : A → B) (x : Option A) → option_map f x ≡ None → x ≡ None
none_mapped f None is = refl
none_mapped f (Some x) is = absurd (cc is)

some_mapped : {A B : Type 0} (f : A → B) (x : Option A) → IsSome (option_map f x) → IsSome x
some_mapped f None is = absurd (cc is)
some_mapped f (Some x) is = refl

pub read_answered : {H : Type 0} (known_of : H → Known) (held held' : Option H) (before after : RecordDisk) (result : Result OldRecord RecordFault)
    → before.known ≡ option_map known_of held → after.known ≡ option_map known_of held' → after.name ≡ before.name
    → IfOk result (λ old. HasAsked before.asked after.asked (IsRead before.name (found_in old) before.known after.known))
    → IfOk result (λ old. held ≡ None → IsSome held' → IsReadOf before.holds old.text.items)
    → OnOk result (held ≡ None → IsNoDevice before.holds after.known) → OnOk result (held ≡ None → IsUntouched after.asked after.known)
    → IfErr result (λ _. HasAsked before.asked after.asked (IsNotRead before.name)) → OnErr result (after.known ≡ before.known)
    → IsReadAnswered (Some before) (Some after) result
read_answered known_of held held' before after (Ok old) is is' name asked text plain untouched failed kept = (
  name,
  (
    asked.0,
    asked.1,
    record {
      read = asked.2;
      text = λ none some. text (none_mapped known_of held (sym is ∙ none)) (some_mapped known_of held' (subst IsSome is' some));
      plain = λ none. plain (none_mapped known_of held (sym is ∙ none));
      untouched = λ none. untouched (none_mapped known_of held (sym is ∙ none));
    },
  ),
)
read_answered known_of held held' before after (Err fault) is is' name asked text plain untouched failed kept = (name, (failed.0, failed.1, (failed.2, kept)))

begun_of : (text name : List ℕ) (known known' : FileKnown) (a b : Option (List DiskStep))
    → MatchOption known ⊥ (λ file. HasAsked a b (IsBegun name file text)) → Remains known' → HasAsked a b (IsBegunOf text name known known')
begun_of text name None known' a b h remains = absurd h
begun_of text name (Some file) known' a b h remains = (h.0, h.1, (h.2, remains))

not_begun_of : (text name : List ℕ) (known known' : FileKnown) (a b : Option (List DiskStep))
    → MatchOption known (b ≡ a) (λ file. HasAsked a b (IsNotBegun name file text)) → known' ≡ None → HasAsked a b (IsNotBegunOf text name known known')
not_begun_of text name None known' a b h none = subst (λ x. HasAsked a x (IsNotBegunOf text name None known')) (sym h) ([], tells_none a, (refl, none))
not_begun_of text name (Some file) known' a b h none = (h.0, h.1, (h.2, none))

pub begin_answered : {K : Type 0} (before after : RecordDisk) (result : Result K RecordFault) (text : List ℕ) → after.name ≡ before.name
    → OnOk result (MatchOption before.known ⊥ (λ file. HasAsked before.asked after.asked (IsBegun before.name file text)))
    → OnErr result (MatchOption before.known (after.asked ≡ before.asked) (λ file. HasAsked before.asked after.asked (IsNotBegun before.name file text)))
    → OnOk result (Remains after.known) → OnErr result (after.known ≡ None) → IsBeginAnswered text (Some before) (Some after) result
begin_answered before after (Ok keeper) text name asked failed remains none =
    (name, begun_of text before.name before.known after.known before.asked after.asked asked remains)
begin_answered before after (Err fault) text name asked failed remains none =
    (name, not_begun_of text before.name before.known after.known before.asked after.asked failed none)

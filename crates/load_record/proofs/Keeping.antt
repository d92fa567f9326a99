-- What a call of a keeper does, from what its writes did.
use Rattle.std.proofs.Common.{◌≡◌, ◌↔◌, zero, suc, ℕ, ◌+◌, ◌-◌, ◌^◌, ◌<◌, ◌≤◌, min, Bool, true, false, List, ◌++◌, Option, Some, None, Result, Ok, Err, OnOk, OnErr, IfOk, IfErr, IsOk, arith, ap, sym, ◌∙◌}
use Rattle.std.specs.List.{slice_get}
use Rattle.std.proofs.lemmas.Bool.{false≢true}
use Rattle.std.specs.Io.KnownBytes.{Appends, Keeps}
use Rattle.tape_image.specs.Word.{WordValue}
use Rattle.tape_image.specs.Plan.{PlanValue}
use Rattle.host_devices.specs.declared.fault.KeepFault.{KeepFault}
use Rattle.host_devices.specs.declared.fault.KeepFault.TheVariants.{Write}
use Rattle.load_record.specs.declared.version.Version.TheVariants.{Second}
use Rattle.load_record.specs.declared.run.OpenRun.{OpenRun}
use Rattle.byte_io.specs.declared.output.WriteFault.{WriteFault}
use Rattle.byte_io.specs.Output.{WritesProperPrefix}
use Rattle.load_record.specs.Keeper.{Keeper, Lasts, Wrote, Failed, HoldsRecord}
use Rattle.load_record.specs.RecordText.{second_piece, second_run, words_text}
use Rattle.load_record.proofs.Pieces.{words_text-more, open_run-more}
use Rattle.byte_io.proofs.Fronts.{front_prefix, front_whole}
use Rattle.load_record.proofs.Writing.{Appends-kept, front_kept, no_front}

-- what a call answers, and how it leaves the count
abbrev Counts : Keeper → Keeper → Result (Unit {0}) KeepFault → Type 0
Counts before after result = IfErr result (λ fault. (fault ≡ Write) × (after.failures ≡ min (before.failures + 1) (2 ^ 64 - 1)))

-- what a call did that failed
abbrev pub FailsAs : Keeper → Keeper → Result (Unit {0}) KeepFault → List ℕ → Type 0
FailsAs before after result text = IfErr result (λ fault. (fault ≡ Write) × Failed before after text)

-- a count that is not above 0
pub never_failed : (broken : Bool) (failures : ℕ) → broken ≡ false → (broken ≡ true) ↔ (0 < failures) → failures ≤ 0
never_failed broken zero unbroken h = omega arith
never_failed broken (suc n) unbroken h = let had : broken ≡ true = h.1 (omega arith) in absurd (false≢true (sym unbroken ∙ had))

-- a call after a fault
pub failed_before : (before after : Keeper) (result : Result (Unit {0}) KeepFault) (text : List ℕ) → 0 < before.failures
    → Counts before after result → Keeps before.text after.text → FailsAs before after result text
failed_before before after (Ok x) text had counts kept = tt
failed_before before after (Err fault) text had counts kept =
    (counts.0, record { counted = counts.1; part = no_front before.text after.text text kept; silent = λ h. kept })

-- a call whose write failed, or whose flush
pub failed_now : (before after : Keeper) (between : Option (List ℕ)) (written : Result (Option OpenRun) WriteFault) (result : Result (Unit {0}) KeepFault) (text : List ℕ) (run : Option OpenRun)
    → before.failures ≤ 0 → IfOk written (λ now_open. (now_open ≡ run) × Appends before.text between text) → OnErr written (WritesProperPrefix before.text between text)
    → Keeps between after.text → Counts before after result → FailsAs before after result text
failed_now before after between written (Ok x) text run none ok err kept counts = tt
failed_now before after between (Ok now_open) (Err fault) text run none ok err kept counts =
    (counts.0, record { counted = counts.1; part = front_whole before.text after.text text (Appends-kept before.text between after.text text ok.1 kept); silent = λ had. absurd (omega arith) })
failed_now before after between (Err failed) (Err fault) text run none ok err kept counts =
    (counts.0, record { counted = counts.1; part = front_kept before.text between after.text text (front_prefix before.text between text err) kept; silent = λ had. absurd (omega arith) })

-- a call that wrote its text
pub wrote_now : (before after : Keeper) (between : Option (List ℕ)) (written : Result (Option OpenRun) WriteFault) (result : Result (Unit {0}) KeepFault) (text : List ℕ) (run : Option OpenRun)
    → before.failures ≤ 0 → IfOk written (λ now_open. (now_open ≡ run) × Appends before.text between text) → Keeps between after.text
    → OnOk result (IfOk written (λ now_open. after.run ≡ now_open) × IsOk written × (after.failures ≡ before.failures) × Lasts after.lasting after.text) → OnOk result (Wrote before after text run)
wrote_now before after between written (Err fault) text run none ok kept settled = tt
wrote_now before after between (Err failed) (Ok x) text run none ok kept settled = let no_write = settled.1 in absurd (cc no_write)
wrote_now before after between (Ok now_open) (Ok x) text run none ok kept settled = record {
  sound = omega arith;
  appended = Appends-kept before.text between after.text text ok.1 kept;
  lasts = settled.3;
  now_open = settled.0 ∙ ok.0;
  no_failure = let same = settled.2 in omega arith;
}

-- a known text that grew
pub known_text : (before after : Option (List ℕ)) (text more : List ℕ) → before ≡ Some text → Appends before after more → after ≡ Some (text ++ more)
known_text None after text more e grew = absurd (cc e)
known_text (Some x) None text more e grew = absurd grew
known_text (Some x) (Some y) text more e grew = let same : x ≡ text = cc in ap Some (grew ∙ ap (λ l. l ++ more) same)

-- the record of k words becomes that of k + 1
abbrev pub AddsWord : Keeper → Keeper → WordValue → Type 0
AddsWord before after word = (plan : PlanValue) (k : ℕ) → HoldsRecord before plan k → slice_get plan.words k ≡ Some word → HoldsRecord after plan (k + 1)

pub wrote_adds : (before after : Keeper) (word : WordValue) → Wrote before after (second_piece before.run word) (second_run before.run word)
    → AddsWord before after word
wrote_adds before after word wrote plan k holds next = record {
  written = known_text before.text after.text (words_text Second plan k) (second_piece before.run word) holds.written wrote.appended
      ∙ ap Some (ap (λ run. words_text Second plan k ++ second_piece run word) holds.knows ∙ sym (words_text-more Second plan k word next));
  knows = wrote.now_open ∙ ap (λ run. second_run run word) holds.knows ∙ sym (open_run-more Second plan k word next);
}

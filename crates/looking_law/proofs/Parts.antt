-- One honest line is an honest line for each host that ran on it.
use Rattle.std.proofs.Common.{◌≡◌, ℕ, ◌+◌, List, [], ◌∷◌, ◌++◌, refl, arith, sym, subst, append-nil}
use Rattle.std.specs.Prelude.{All}
use Rattle.std.proofs.lemmas.List.Elements.{All-head, All-tail}
use Rattle.host_devices.specs.declared.item.Item.{Item}
use Rattle.honest_line.specs.Honest.{IsHonest}
use Rattle.looking_law.specs.Rows.{in_a_row}
use Rattle.looking_law.specs.Parts.{LeavesReady, OneLineIsARow, RunsLeaveReady}
use Rattle.looking_law.specs.Runs.{dialogue_of}
use Rattle.looking_law.specs.Splitting.{BeginsByListening, PartsAt}
use Rattle.looking_law.proofs.Runs.{run_begins, run_harmless, run_tidy}
use Rattle.looking_law.proofs.Splits.{lines_split}
use Rattle.looking_law.proofs.Told.{both_begin, told_begins, told_honest}

pub leave_ready : RunsLeaveReady
leave_ready run told is front = record {
  begins = told_begins (dialogue_of run) told front (run_begins run);
  tidy = λ machine ready. run_tidy run told machine ready is front;
  ready = λ machine now lost ready honest. (run_harmless run machine now lost ready is (told_honest (dialogue_of run) told machine now lost front honest)).ready;
}

rows_begin : (parts : List (List Item)) (last : List Item) → All LeavesReady parts → BeginsByListening last → BeginsByListening (in_a_row (parts ++ last ∷ []))
rows_begin [] last all begins = both_begin last [] begins tt
rows_begin (said ∷ parts) last all begins =
    both_begin said (in_a_row (parts ++ last ∷ [])) (All-head LeavesReady said parts all).begins (rows_begin parts last (All-tail LeavesReady said parts all) begins)

none_later : (n : ℕ) → n ≡ n + 0
none_later n = omega arith

pub is_row : OneLineIsARow
is_row machine now [] last lost ready all begins honest =
    (now, lost, 0, subst (λ items. IsHonest machine items lost now) (append-nil last) honest, (refl, refl), none_later lost)
is_row machine now (said ∷ parts) last lost ready all begins honest =
    let rest : List Item = in_a_row (parts ++ last ∷ []) in
    let leaves : LeavesReady said = All-head LeavesReady said parts all in
    let others : All LeavesReady parts = All-tail LeavesReady said parts all in
    let split : PartsAt machine said rest lost now = lines_split machine now said rest lost (leaves.tidy machine ready) (rows_begin parts last others begins) honest in (
      split.between,
      split.lost_before,
      split.lost_after,
      split.before,
      is_row split.between now parts last split.lost_after (leaves.ready machine split.between split.lost_before ready split.before) others begins split.after,
      sym split.losses,
    )

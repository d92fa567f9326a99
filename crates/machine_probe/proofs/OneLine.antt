-- One honest line on which the runs of a probe were made is an honest line for each of them.
use Rattle.std.proofs.Common.{◌≡◌, ℕ, ◌+◌, ◌*◌, ◌^◌, ◌<◌, ◌≤◌, ◌%◌, Bool, true, false, List, [], ◌∷◌, ◌++◌, Option, Some, None, Ok, Err, ◌⊎◌, inl, inr, refl, arith, ap, sym, subst, ◌∙◌, append-nil}
use Rattle.std.specs.Prelude.{⊤}
use Rattle.odt_machine.specs.Machine.{Machine}
use Rattle.host_devices.specs.declared.item.Item.{Item}
use Rattle.host_core.specs.Core.{Core, begun as begun_load}
use Rattle.host_core.specs.declared.heard.Heard.{Heard}
use Rattle.host_devices.specs.Dialogue.{dialogue as load_dialogue}
use Rattle.engine.specs.Session.{session_told}
use Rattle.load_engine.specs.Driving.{LoadStop, driving}
use Rattle.engine.specs.declared.stop.Stop.TheVariants as load
use Rattle.load_engine.specs.Driven.{IsSaid as IsSaidOfLoad}
use Rattle.load_engine.proofs.Sessions.{session_said}
use Rattle.honest_line.specs.Honest.{IsHonest}
use Rattle.machine_probe.specs.declared.memory_end.Limits.{Limits}
use Rattle.machine_probe.specs.declared.pieces.Pieces.{Pieces}
use Rattle.machine_probe.specs.declared.search.Search.{Search}
use Rattle.machine_probe.specs.Passes.{Ahead, ArePieces, CameTo, IsPass, LastPass, NoPassLeft, OnePassMore, Searches, ahead, found, last_words, limits, pass_over, passed, three_passes}
use Rattle.machine_probe.specs.declared.memory_end.PassEnd.TheVariants.{Lacking}
use Rattle.looking_law.specs.Rows.{AreHonest, in_a_row}
use Rattle.machine_probe.proofs.Founds.{IsOver, passed_within}
use Rattle.machine_probe.proofs.LastWords.{last_asked}
use Rattle.probe_report.specs.declared.findings.TrialFindings.{TrialFindings}
use Rattle.probe_report.specs.declared.findings.Extent.{Extent}
use Rattle.probe_report.specs.declared.findings.Findings.{Findings}
use Rattle.probe_report.specs.declared.findings.Sighting.{Sighting}
use Rattle.probe_report.specs.declared.judging.Verdict.{Verdict}
use Rattle.probe_report.specs.declared.judging.Verdict.TheVariants.{Forgets, Stores, Unknown}
use Rattle.probe_report.specs.Judging.{verdict_of}
use Rattle.reading_core.specs.declared.phase.End.TheVariants.{Complete, GaveUp, NoWord}
use Rattle.reading_core.specs.Addresses.{IsAddress}
use Rattle.reading_core.specs.Invariant.{IsReader}
use Rattle.reading_core.specs.Reader.{Reader, begun}
use Rattle.reading_core.proofs.Lives.{led_addresses, led_kept}
use Rattle.reading_core.proofs.Turns.{fresh_kept}
use Rattle.looking_law.specs.Belief.{IsReadyMachine}
use Rattle.looking_engine.specs.Stopping.{LookStop}
use Rattle.engine.specs.declared.stop.Cut.TheVariants.{LineFailed, TurnsOver}
use Rattle.looking_law.specs.Parts.{LeavesReady}
use Rattle.looking_law.specs.Runs.{Look, Run, Try, dialogue_of}
use Rattle.looking_law.specs.Splitting.{BeginsByListening, PartsAt}
use Rattle.looking_law.specs.Trying.{IsToldOf}
use Rattle.looking_law.proofs.Parts.{leave_ready}
use Rattle.looking_law.proofs.Splits.{lines_split}
use Rattle.looking_law.proofs.Told.{both_begin, told_begins}
use Rattle.machine_probe.specs.declared.probe_options.ProbeOptions.{ProbeOptions}
use Rattle.machine_probe.specs.Belief.{AreBelievableOver}
use Rattle.machine_probe.specs.Follow.{IsProbe, IsTried, IsTriedOut, CountedWhere, MadeWhere, forgets, goes_on, is_number, number_in, stores}
use Rattle.machine_probe.specs.PuttingBack.{PutsBack}
use Rattle.machine_probe.specs.Runs.{LooksAt, IsSearch, IsTrialOf}
use Rattle.machine_probe.specs.Turns.{turns_of}
use Rattle.machine_probe.proofs.Believed.{believes, one_address, told_look, told_trial}

-- ---- rows of hosts

-- every one of these leaves the machine ready
abbrev pub AllLeave : List (List Item) → Type 0
AllLeave [] = ⊤
AllLeave (said ∷ parts) = LeavesReady said × AllLeave parts

-- there is one, and all but the last leave it ready
abbrev pub AreHosts : List (List Item) → Type 0
AreHosts [] = ⊥
AreHosts (said ∷ []) = BeginsByListening said
AreHosts (said ∷ (next ∷ parts)) = LeavesReady said × AreHosts (next ∷ parts)

row_begins : (parts : List (List Item)) → AreHosts parts → BeginsByListening (in_a_row parts)
row_begins [] are = absurd are
row_begins (said ∷ []) are = both_begin said [] are tt
row_begins (said ∷ (next ∷ parts)) are = both_begin said (in_a_row (next ∷ parts)) are.0.begins (row_begins (next ∷ parts) are.1)

pub row_of_line : (machine now : Machine) (parts : List (List Item)) (lost : ℕ) → IsReadyMachine machine → AreHosts parts → IsHonest machine (in_a_row parts) lost now → AreHonest machine parts lost now
row_of_line machine now [] lost ready are honest = absurd are
row_of_line machine now (said ∷ []) lost ready are honest = (now, lost, 0, subst (λ items. IsHonest machine items lost now) (append-nil said) honest, (refl, refl), none_later lost)
  where
    none_later : (n : ℕ) → n ≡ n + 0
    none_later n = omega arith
row_of_line machine now (said ∷ (next ∷ parts)) lost ready are honest =
    let s : PartsAt machine said (in_a_row (next ∷ parts)) lost now =
    lines_split machine now said (in_a_row (next ∷ parts)) lost (are.0.tidy machine ready) (row_begins (next ∷ parts) are.1) honest in (
      s.between,
      s.lost_before,
      s.lost_after,
      s.before,
      row_of_line s.between now (next ∷ parts) s.lost_after (are.0.ready machine s.between s.lost_before ready s.before) are.1 s.after,
      sym s.losses,
    )

in_front : (said : List Item) (parts : List (List Item)) → LeavesReady said → AreHosts parts → AreHosts (said ∷ parts)
in_front said [] leaves are = absurd are
in_front said (next ∷ parts) leaves are = (leaves, are)

pub hosts_behind : (xs ys : List (List Item)) → AllLeave xs → AreHosts ys → AreHosts (xs ++ ys)
hosts_behind [] ys all are = are
hosts_behind (said ∷ xs) ys all are = in_front said (xs ++ ys) all.0 (hosts_behind xs ys all.1 are)

pub all_join : (xs ys : List (List Item)) → AllLeave xs → AllLeave ys → AllLeave (xs ++ ys)
all_join [] ys all more = more
all_join (said ∷ xs) ys all more = (all.0, all_join xs ys all.1 more)

pub hosts_all : (said : List Item) (parts : List (List Item)) → LeavesReady said → AllLeave parts → AreHosts (said ∷ parts)
hosts_all said [] leaves all = leaves.begins
hosts_all said (next ∷ parts) leaves all = (leaves, hosts_all next parts all.0 all.1)

-- ---- the runs

-- what leaves the machine ready as its one part does
one_leaves : (parts : List (List Item)) (said : List Item) → parts ≡ said ∷ [] → LeavesReady said → AllLeave parts
one_leaves parts said is leaves = subst AllLeave (sym is) (leaves, tt)

look_leaves : (options : ProbeOptions) (changed : ℕ) (sighting : Sighting) (parts : List (List Item)) → IsAddress options.address → options.patience < 2 ^ 32 → (l : LooksAt options changed sighting parts) → LeavesReady l.said
look_leaves options changed sighting parts address long l =
    let s = l.inquired in
    let run : Run = Look (options.address ∷ []) options.patience s.heard in
    leave_ready run l.said (one_address options.address address, long) (subst (IsToldOf (dialogue_of run)) (sym s.on_line) (told_look l.stop _ (dialogue_of run) s.said s.items))

trial_leaves_ready : (options : ProbeOptions) (old : ℕ) (attempt : TrialFindings) (parts : List (List Item)) → IsAddress options.address → options.patience < 2 ^ 32 → (t : IsTrialOf options old attempt parts) → LeavesReady t.said
trial_leaves_ready options old attempt parts address long t =
    let s = t.conducted in
    let run : Run = Try options.address old options.patience s.heard in
    leave_ready run t.said (address, long) (subst (IsToldOf (dialogue_of run)) (sym s.on_line) (told_trial t.stop _ (dialogue_of run) s.said s.items))

pub made_leave : {A : Type 0} (wanted : Bool) (run : A → List (List Item) → Type 0) (thing : Option A) (parts : List (List Item)) → ((a : A) → run a parts → AllLeave parts) → MadeWhere wanted run thing parts → AllLeave parts
made_leave {A} true run None parts so is = absurd is
made_leave {A} true run (Some a) parts so is = so a is
made_leave {A} false run None parts so is = subst AllLeave (sym is) tt
made_leave {A} false run (Some a) parts so is = absurd is

-- ---- the load of the old number

load_begins : (core : Core) (heard : List Heard) → BeginsByListening (load_dialogue core heard)
load_begins core [] = tt
load_begins core (heard ∷ more) = tt

told_load : (stop : LoadStop) (all said : List Item) → IsSaidOfLoad (Some stop) all said → IsToldOf all said
told_load (load.Ended end) all said is = inl is
told_load (load.CutOff TurnsOver) all said is = inl is
told_load (load.KeepFailed fault) all said lacks = inr lacks
told_load (load.CutOff (LineFailed fault)) all said (inl whole) = inl whole
told_load (load.CutOff (LineFailed fault)) all said (inr lacks) = inr lacks

pub deposit_begins : (options : ProbeOptions) (old : ℕ) (is_back : Bool) (parts : List (List Item)) → (p : PutsBack options old is_back parts) → BeginsByListening p.said
deposit_begins options old is_back parts p =
    let s = p.session in
    let core : Core = begun_load p.plan 0 false options.patience in
    told_begins (load_dialogue core s.heard) p.said (subst (IsToldOf (load_dialogue core s.heard)) (sym s.on_line) (told_load p.stop (load_dialogue core s.heard) s.said (session_said (turns_of options.patience) (driving core p.last (Some p.stop)) (session_told (Some []) (Some [])) (session_told (Some p.said) (Some p.kept)) s))) (load_begins core s.heard)

-- ---- the passes of the search

pass_leaves : (limits : Limits) (from : ℕ) (pieces : Pieces) (stop : LookStop) (last : Reader) (said : List Item) → limits.patience < 2 ^ 32 → ArePieces from pieces → IsPass (pass_over limits from pieces) stop last said → LeavesReady said
pass_leaves limits from pieces stop last said long are p =
    let s = p.inquired in
    let run : Run = Look (last_words from pieces.bytes pieces.count) limits.patience s.heard in
    leave_ready run said (last_asked from pieces are, long) (subst (IsToldOf (dialogue_of run)) (sym s.on_line) (told_look stop _ (dialogue_of run) s.said s.items))

-- where the next pass begins
record NextAt (from next : ℕ) (pieces : Pieces) : Type 0 where
  pub even : next % 2 ≡ 0
  pub within : next + pieces.bytes ≤ from + pieces.bytes * pieces.count

next_at : (limits : Limits) (from address : ℕ) (pieces : Pieces) (last : Reader) (said : List Item) → limits.patience < 2 ^ 32 → ArePieces from pieces → IsPass (pass_over limits from pieces) (Ok (NoWord address)) last said → NextAt from (found from pieces last) pieces
next_at limits from address pieces last said long are p =
    let s = p.inquired in
    let first : Reader = begun (last_words from pieces.bytes pieces.count) [] limits.patience in
    let over : IsOver from pieces last = record {
      addresses = ap (λ (r : Reader). r.addresses) s.host ∙ led_addresses first s.heard;
      kept = subst IsReader (sym s.host) (led_kept first s.heard (fresh_kept (last_words from pieces.bytes pieces.count) limits.patience (last_asked from pieces are) long));
    } in
    let w = passed_within from pieces (Ok (NoWord address)) last are over p.end in
    record { even = w.0; within = w.1 }

-- only a word that is not there lets a pass lack one
lacking_is : (stop : LookStop) (found next : ℕ) → passed stop found ≡ Lacking next → (address : ℕ) × (stop ≡ Ok (NoWord address)) × (next ≡ found)
lacking_is (Ok (NoWord address)) found next is = (address, refl, cc is)
lacking_is (Ok Complete) found next is = absurd (cc is)
lacking_is (Ok GaveUp) found next is = absurd (cc is)
lacking_is (Err cut) found next is = absurd (cc is)

-- a pass that lacked a word, and where the next one begins
lacked_at : (at : Ahead) (pieces : Pieces) (next changed : ℕ) (said : List Item) → at.limits.patience < 2 ^ 32 → ArePieces at.from pieces → CameTo (pass_over at.limits at.from pieces) (Lacking next) changed said → NextAt at.from next pieces
lacked_at at pieces next changed said long are came =
    let lacks = lacking_is came.stop (found at.from pieces came.last) next (sym came.end_is) in
    subst (λ n. NextAt at.from n pieces) (sym lacks.2)
    (next_at at.limits at.from lacks.0 pieces came.last said long are (subst (λ (s : LookStop). IsPass (pass_over at.limits at.from pieces) s came.last said) lacks.1 came.is_pass))

pass_then : (pieces : Pieces) (passes : List Pieces) (at : Ahead) (search : Search) (changed : ℕ) (parts : List (List Item)) → at.limits.patience < 2 ^ 32 → ArePieces at.from pieces →
    ((next more : ℕ) (rest : List (List Item)) → NextAt at.from next pieces → Searches passes (ahead at.limits next) search more rest → AllLeave rest) → Searches (pieces ∷ passes) at search changed parts → AllLeave parts
pass_then pieces passes at search changed parts long are so (LastPass pieces' passes' at' search' changed' said came) = (pass_leaves at.limits at.from pieces came.stop came.last said long are came.is_pass, tt)
pass_then pieces passes at search changed parts long are so (OnePassMore pieces' passes' at' search' next here later said rest came more) =
    (pass_leaves at.limits at.from pieces came.stop came.last said long are came.is_pass, so next later rest (lacked_at at pieces next here said long are came) more)

none_then : (at : Ahead) (search : Search) (changed : ℕ) (parts : List (List Item)) → Searches [] at search changed parts → AllLeave parts
none_then at search changed parts (NoPassLeft here) = tt

search_leaves : (limits : Limits) (search : Search) (changed : ℕ) (parts : List (List Item)) → limits.patience < 2 ^ 32 → Searches three_passes (ahead limits 0) search changed parts → AllLeave parts
search_leaves limits search changed parts long is =
    pass_then (record { bytes = 0o4000; count = 28 }) (record { bytes = 0o100; count = 32 } ∷ record { bytes = 2; count = 32 } ∷ []) (ahead limits 0) search changed parts long
    (record { even = refl; whole = refl; some = omega arith; below = omega arith })
    (λ from n rest at. pass_then (record { bytes = 0o100; count = 32 }) (record { bytes = 2; count = 32 } ∷ []) (ahead limits from) search n rest long
    (record { even = at.even; whole = refl; some = omega arith; below = omega (arith, at.within) })
    (λ next m more here. pass_then (record { bytes = 2; count = 32 }) [] (ahead limits next) search m more long
    (record { even = here.even; whole = refl; some = omega arith; below = omega (arith, here.within, at.within) })
    (λ last k none there. none_then (ahead limits last) search k none)))
    is

-- ---- all of them

-- behind the second look: the old number is put back or the end of memory is searched, and not both
behind_second : (options : ProbeOptions) (verdict : Verdict) (old : ℕ) (put_back : Option Bool) (changed : ℕ) (search : Option Extent) (xs ys : List (List Item)) →
    MadeWhere (stores verdict) (PutsBack options old) put_back xs → CountedWhere (forgets verdict) (IsSearch options) changed search ys → options.patience < 2 ^ 32 → AllLeave (xs ++ ys) ⊎ AreHosts (xs ++ ys)
behind_second options Stores old None changed search xs ys deposits searches long = absurd deposits
behind_second options Stores old (Some is_back) changed None xs ys deposits searches long =
    inr (subst (λ list. AreHosts (list ++ ys)) (sym deposits.part) (subst (λ list. AreHosts (deposits.said ∷ list)) (sym searches.0) (deposit_begins options old is_back xs deposits)))
behind_second options Stores old (Some is_back) changed (Some extent) xs ys deposits searches long = absurd searches.0
behind_second options Forgets old None changed None xs ys deposits searches long = absurd searches.0
behind_second options Forgets old None changed (Some extent) xs ys deposits searches long =
    inl (subst (λ list. AllLeave (list ++ ys)) (sym deposits) (search_leaves (limits options.patience (turns_of options.patience)) searches.0.search changed ys long searches.0.passes))
behind_second options Forgets old (Some is_back) changed search xs ys deposits searches long = absurd deposits
behind_second options Unknown old None changed None xs ys deposits searches long = inl (subst (λ list. AllLeave (list ++ ys)) (sym deposits) (subst AllLeave (sym searches.0) tt))
behind_second options Unknown old None changed (Some extent) xs ys deposits searches long = absurd searches.0
behind_second options Unknown old (Some is_back) changed search xs ys deposits searches long = absurd deposits

-- what a probe does before it decides: a look, and what leaves the machine ready, too
pub record BeginsByLook (parts : List (List Item)) : Type 0 where
  pub said : List Item
  pub more : List (List Item)
  pub parts_are : parts ≡ said ∷ more
  pub leaves : LeavesReady said
  pub all : AllLeave more

pub tries_begin : (options : ProbeOptions) (f : Findings) (parts : List (List Item)) → IsAddress options.address → options.patience < 2 ^ 32 → IsTried options f parts → BeginsByLook parts
tries_begin options f parts address long t = record {
  said = t.look.said;
  more = t.in_trial ++ t.in_second_look;
  parts_are = t.parts_are ∙ ap (λ list. list ++ (t.in_trial ++ t.in_second_look)) t.look.part;
  leaves = look_leaves options f.changes.first f.first t.in_look address long t.look;
  all = all_join t.in_trial t.in_second_look
      (made_leave (is_number f.first) _ f.trial t.in_trial (λ attempt is. one_leaves t.in_trial is.said is.part (trial_leaves_ready options (number_in f.first) attempt t.in_trial address long is)) t.trial)
      (made_leave (goes_on f.trial) _ f.second t.in_second_look (λ sighting is. one_leaves t.in_second_look is.said is.part (look_leaves options f.changes.second sighting t.in_second_look address long is)) t.second_look.0);
}

pub hosts : (parts behind : List (List Item)) → BeginsByLook parts → AllLeave behind ⊎ AreHosts behind → AreHosts (parts ++ behind)
hosts parts behind b (inl all) = subst (λ list. AreHosts (list ++ behind)) (sym b.parts_are) (hosts_all b.said (b.more ++ behind) b.leaves (all_join b.more behind b.all all))
hosts parts behind b (inr are) = subst (λ list. AreHosts (list ++ behind)) (sym b.parts_are) (hosts_behind (b.said ∷ b.more) behind (b.leaves, b.all) are)

-- a console that was tried out: all of it leaves the machine ready, but for a load of the old number at the end
pub tried_hosts : (options : ProbeOptions) (f : Findings) (parts : List (List Item)) → IsAddress options.address → options.patience < 2 ^ 32 → IsTriedOut options f parts →
    AllLeave parts ⊎ (AreHosts parts × (stores (verdict_of f) ≡ true))
tried_hosts options f parts address long p = by_deposit (stores (verdict_of f)) f.put_back p.in_deposit refl p.deposit
  where
    b : BeginsByLook p.in_tries
    b = tries_begin options f p.in_tries address long p.tried

    by_deposit : (wanted : Bool) (thing : Option Bool) (deposits : List (List Item)) → stores (verdict_of f) ≡ wanted → MadeWhere wanted (PutsBack options (number_in f.first)) thing p.in_deposit →
        AllLeave parts ⊎ (AreHosts parts × (stores (verdict_of f) ≡ true))
    by_deposit true None deposits is made = absurd made
    by_deposit true (Some is_back) deposits is made =
        inr (subst AreHosts (sym p.parts_are) (hosts p.in_tries p.in_deposit b (inr (subst AreHosts (sym made.part) (deposit_begins options (number_in f.first) is_back p.in_deposit made)))), is)
    by_deposit false (Some is_back) deposits is made = absurd made
    by_deposit false None deposits is made =
        inl (subst AllLeave (sym (p.parts_are ∙ (ap (λ more. p.in_tries ++ more) made ∙ (append-nil p.in_tries ∙ b.parts_are)))) (b.leaves, b.all))

pub believes_over : (options : ProbeOptions) (f : Findings) (parts : List (List Item)) → IsAddress options.address → options.patience < 2 ^ 32 →
    IsProbe options f parts → AreBelievableOver f parts
believes_over options f parts address long p machine now lost ready honest =
    let behind = behind_second options (verdict_of f) (number_in f.first) f.put_back f.changes.search f.search p.in_deposit p.in_search p.deposit p.search long in
    let are = hosts p.in_tries (p.in_deposit ++ p.in_search) (tries_begin options f p.in_tries address long p.tried) behind in
    believes options f parts address long p machine now lost ready (row_of_line machine now parts lost ready (subst AreHosts (sym p.parts_are) are) honest)

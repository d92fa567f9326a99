-- On a line that loses nothing, each event types the next of the keys that are left.
use Rattle.std.proofs.Common.{◌≡◌, ◌≢◌, ℕ, suc, ◌+◌, ◌/◌, ◌<◌, ◌≤◌, Bool, true, false, cond, eqb, ltb, List, [], ◌∷◌, ◌++◌, length, drop, Option, Some, None, unwrap_or, inl, inr, refl, arith, ap, sym, subst, ◌∙◌, drop-cons, add-one, length-drop, get_or-drop, get_or-set_other}
use Rattle.std.proofs.lemmas.List.{drop_all}
use Rattle.std.specs.Option.{is_none}
use Rattle.std.specs.Prelude.{◌==◌, ◌&&◌, if◌then◌else◌, option_to_list, IsSome}
use Rattle.std.proofs.lemmas.Bool.Decides.{nat_tests}
use Rattle.octal.specs.Octal.{digit_of, octal_text}
use Rattle.tape_image.specs.Word.{WordValue, merged}
use Rattle.tape_image.specs.Plan.{IsPlan}
use Rattle.tape_image.proofs.Standing.{places_apart}
use Rattle.odt_machine.specs.Machine.{Machine, word_at, stored}
use Rattle.odt_machine.specs.KeyTable.{Taken, take_of}
use Rattle.host_core.specs.declared.phase.Visit.TheVariants.{Look}
use Rattle.host_core.specs.declared.phase.Reason.TheVariants.{Store}
use Rattle.host_core.specs.declared.phase.End.TheVariants.{Loaded}
use Rattle.host_core.specs.declared.phase.Phase.{Phase}
use Rattle.host_core.specs.declared.phase.Phase.TheVariants.{Settle, Address, Return, Go, Ended}
use Rattle.host_core.specs.declared.turn.Turn.{Turn}
use Rattle.host_core.specs.declared.turn.Turn.TheVariants.{Listen, Key, Verified, Revisit, Next, Mark, Stop, Stray, Timeout}
use Rattle.host_core.specs.Core.{Core, word_nr, no_word, word_under_way, start_of, ended, begun_by}
use Rattle.host_core.specs.Host.{PhaseFits, basis_of}
use Rattle.host_core.specs.declared.heard.Heard.TheVariants.{Got, Quiet as Silence}
use Rattle.host_core.specs.PhaseTable.{Move, move, taken, sends, after_words, hears, waits}
use Rattle.line_world.specs.Scene.{Scene, Toll, toll_of}
use Rattle.tape_image.specs.Plan.{PlanValue}
use Rattle.line_world.specs.declared.event.Event.{Event}
use Rattle.line_world.specs.World.{happens, typed_in, typed, first_of, first_event, renewing, IsCleanRun}
use Rattle.line_world.proofs.Stepped.{answered, stepped, none_yet, onward}
use Rattle.odt_machine.specs.declared.mode.Mode.{Mode}
use Rattle.line_world.specs.Struck.{Attempt}
use Rattle.line_world.specs.Pending.{Live, BrokenIsPaid, rest_of}
use Rattle.line_world.specs.Invariant.{IsKept}
use Rattle.line_world.specs.CleanLine.{LiesIn, IsAtOpening}
use Rattle.line_world.specs.Site.{Site, site, held_number, wanted, Lies}
use Rattle.line_world.specs.CleanText.{words_keys, start_keys, clean_text, looks_first}
use Rattle.line_world.proofs.Frame.{scene, PhaseHolds, TurnFits}
use Rattle.line_world.proofs.Silence.{fits_silence, past_mark}
use Rattle.line_world.proofs.Sites.{plan_site}
use Rattle.line_world.proofs.Events.{Steps, steps_event, kept_event}
use Rattle.line_world.proofs.Rows.{IsSite, taken_in, row_live}
use Rattle.line_world.proofs.Stores.{with_memory, lies_same}
use Rattle.line_world.proofs.KeysLeft.{left, Leads, IsBusy, visit_keys, check_keys, hears_leads}

-- between answers no key is under way
abbrev Idle : Phase → List ℕ → Type 0
Idle Settle down = down ≡ []
Idle phase down = Unit {0}

-- the keys for the words from the one numbered k on, and for the start
abbrev keys_from : Core → List ℕ → ℕ → List ℕ
keys_from core memory k = words_keys core.careful (drop k core.plan.words) memory ++ start_keys core.plan.start

-- the keys that are left in a world
abbrev keys_left : Scene → List ℕ
keys_left w = left w.core.phase (site w) (keys_from w.core w.machine.memory w.core.verified) (keys_from w.core w.machine.memory (w.core.verified + 1))

-- the keys from a word on are those of a look at it, and then those from the next word on
here_keys : (w : WordValue) (old : ℕ) (twice stands : Bool) (words start : List ℕ) →
    (((if twice then octal_text w.address ++ 47 ∷ 13 ∷ [] else []) ++ (if stands then octal_text w.address ++ 47 ∷ 13 ∷ [] else (octal_text w.address ++ 47 ∷ octal_text (merged w old) ++ 13 ∷ []) ++ octal_text w.address ++ 47 ∷ 13 ∷ [])) ++ words) ++ start
    ≡ octal_text w.address ++ 47 ∷ (if twice then 13 ∷ octal_text w.address ++ 47 ∷ (if stands then 13 ∷ words ++ start else octal_text (merged w old) ++ 13 ∷ check_keys w.address (words ++ start))
    else (if stands then 13 ∷ words ++ start else octal_text (merged w old) ++ 13 ∷ check_keys w.address (words ++ start)))
here_keys w old true true words start = refl
here_keys w old true false words start = refl
here_keys w old false true words start = refl
here_keys w old false false words start = refl

below_cons : (words : List WordValue) (k : ℕ) → k < length words → drop k words ≡ word_nr words k ∷ drop (k + 1) words
below_cons words k below = rw add-one (drop-cons words k no_word below)

here_look : (core : Core) (memory : List ℕ) → core.verified < length core.plan.words →
    keys_from core memory core.verified ≡ octal_text (word_under_way core).address ++ 47 ∷ visit_keys core.careful Look (word_under_way core) (word_at memory (word_under_way core).address) (keys_from core memory (core.verified + 1))
here_look core memory below =
    let w = word_under_way core in
    let old = word_at memory w.address in
    ap (λ words. words_keys core.careful words memory ++ start_keys core.plan.start) (below_cons core.plan.words core.verified below)
    ∙ here_keys w old (looks_first core.careful w old) (merged w old == old) (words_keys core.careful (drop (core.verified + 1) core.plan.words) memory) (start_keys core.plan.start)

here_start : (core : Core) (memory : List ℕ) → length core.plan.words ≤ core.verified → keys_from core memory core.verified ≡ start_keys core.plan.start
here_start core memory past = ap (λ words. words_keys core.careful words memory ++ start_keys core.plan.start) (drop_all core.verified core.plan.words past)

-- after a turn: what it sent, and then the keys that are left
abbrev after_turn : Machine → Core → List ℕ → List ℕ → Toll → Move → List ℕ
after_turn m core old up lost move = option_to_list move.key ++ keys_left (stepped (scene m core [] old lost) up move)

under : (a b : ℕ) → ltb a b ≡ true → a < b
under a b e = grind (arith, nat_tests)

over : (a b : ℕ) → ltb a b ≡ false → b ≤ a
over a b e = grind (arith, nat_tests)

left_next : (m : Machine) (core : Core) (old up : List ℕ) (lost : Toll) (test : Bool) (start : Option ℕ) → ltb core.verified (length core.plan.words) ≡ test → core.plan.start ≡ start →
    after_turn m core old up lost (cond test (sends core (digit_of (word_under_way core).address 1) (Address Look 1)) (after_words core start)) ≡ keys_from core m.memory core.verified
left_next m core old up lost true start below is = sym (here_look core m.memory (under core.verified (length core.plan.words) below))
left_next m core old up lost false None past is = sym (here_start core m.memory (over core.verified (length core.plan.words) past) ∙ ap start_keys is)
left_next m core old up lost false (Some s) past is =
    let at : start_of core ≡ s = ap (λ o. unwrap_or o 0) is in
    rw at (sym (here_start core m.memory (over core.verified (length core.plan.words) past) ∙ ap start_keys is))

-- a turn that leads on types the next of the keys that are left
left_turn : (m : Machine) (core : Core) (old up : List ℕ) (lost : Toll) (turn : Turn) (keys : List ℕ) →
    Leads (site (scene m core [] old lost)) (keys_from core m.memory core.verified) (keys_from core m.memory (core.verified + 1)) turn keys →
    after_turn m core old up lost (taken core turn) ≡ keys
left_turn m core old up lost (Listen phase) keys h = h
left_turn m core old up lost (Key key phase) keys h = h.0
left_turn m core old up lost Verified keys h = h
left_turn m core old up lost (Revisit visit) keys h = h
left_turn m core old up lost Next keys h = left_next m core old up lost (ltb core.verified (length core.plan.words)) core.plan.start refl refl ∙ h
left_turn m core old up lost Mark keys h = h
left_turn m core old up lost (Stop end) keys h = h
left_turn m core old up lost Stray keys h = absurd h
left_turn m core old up lost Timeout keys h = absurd h

-- ---- Take

-- a word that lies elsewhere is read as before
other_word : (memory : List ℕ) (a b v : ℕ) → b / 2 ≢ a / 2 → word_at (stored memory a v) b ≡ word_at memory b
other_word memory a b v apart = get_or-set_other memory (a / 2) (b / 2) v 0 apart

-- the keys for words that memory holds as before are as before
same_keys : (careful : Bool) (words : List WordValue) (memory other : List ℕ) → ((i : ℕ) → i < length words → word_at other (word_nr words i).address ≡ word_at memory (word_nr words i).address) → words_keys careful words other ≡ words_keys careful words memory
same_keys careful [] memory other same = refl
same_keys careful (w ∷ words) memory other same =
    let first : word_at other w.address ≡ word_at memory w.address = same 0 (omega arith) in
    let rest : words_keys careful words other ≡ words_keys careful words memory = same_keys careful words memory other (λ i below. same (suc i) (omega arith)) in
    rw (first, rest) refl

-- a word stored at the address of the one under way leaves the keys for the later words alone
later_keys : (core : Core) (memory : List ℕ) (v : ℕ) → IsPlan core.plan → core.verified < length core.plan.words →
    keys_from core (stored memory (word_under_way core).address v) (core.verified + 1) ≡ keys_from core memory (core.verified + 1)
later_keys core memory v is below =
    ap (λ keys. keys ++ start_keys core.plan.start) (same_keys core.careful (drop (core.verified + 1) core.plan.words) memory _ (λ i inside.
    let within : core.verified + 1 + i < length core.plan.words = omega (arith, length-drop (core.verified + 1) core.plan.words) in
    let at : word_nr (drop (core.verified + 1) core.plan.words) i ≡ word_nr core.plan.words (core.verified + 1 + i) = get_or-drop (core.verified + 1) core.plan.words i no_word in
    subst (λ (w : WordValue). word_at (stored memory (word_under_way core).address v) w.address ≡ word_at memory w.address) (sym at)
    (other_word memory (word_under_way core).address _ v (places_apart core.plan (core.verified + 1 + i) core.verified no_word is within below (ne core.verified i)))))
  where
    ne : (n i : ℕ) → n + 1 + i ≢ n
    ne n i e = omega arith

-- the keys that are left are those of a world whose memory is this, all else being the same
abbrev left_with : Machine → Core → Toll → Phase → List ℕ → List ℕ
left_with m core lost phase memory =
    left phase (with_memory (site (scene m core [] [] lost)) memory) (keys_from core memory core.verified) (keys_from core memory (core.verified + 1))

-- an attempt in which nothing was lost or changed
whole_attempt : (phase : Phase) (t : Site) (mode : Mode) (down up : List ℕ) (spent : ℕ) (lost : Toll) → lost ≡ none_yet → Attempt lost.hurt phase t mode down up spent lost.count → Live false phase t mode down up spent 0
whole_attempt phase t mode down up spent lost none h = subst (λ (l : Toll). Attempt l.hurt phase t mode down up spent l.count) none h

-- the key that a phase waits for leaves the keys that are left alone
left_taken : (phase : Phase) (m : Machine) (core : Core) (c : ℕ) (lost : Toll) → IsSite (site (scene m core [] [] lost)) → IsPlan core.plan → PhaseFits phase (basis_of core) →
    PhaseHolds phase m core (c ∷ []) [] lost → lost ≡ none_yet → Idle phase (c ∷ []) → ended phase ≡ None →
    left_with m core lost phase (take_of m c).memory ≡ left_with m core lost phase m.memory
left_taken Settle m core c lost numbers is fits h none idle goes = absurd (cc)
left_taken (Ended end) m core c lost numbers is fits h none idle goes = absurd (cc)
left_taken (Return (Store deposit x) k) m core c lost numbers is fits h none idle goes =
    let t = site (scene m core [] [] lost) in
    let row : take_of m c ≡ taken_in (Return (Store deposit x) k) t = row_live (Return (Store deposit x) k) core t m.mode c numbers fits (whole_attempt (Return (Store deposit x) k) t m.mode (c ∷ []) [] core.spent lost none h).key in
    rw row (ap (check_keys t.word.address) (later_keys core m.memory (wanted t) is fits.0))
left_taken phase m core c lost numbers is fits h none idle goes =
    let t = site (scene m core [] [] lost) in
    let row : take_of m c ≡ taken_in phase t = row_live phase core t m.mode c numbers fits (whole_attempt phase t m.mode (c ∷ []) [] core.spent lost none h).key in
    ap (λ (x : Taken). left_with m core lost phase x.memory) row

-- ---- the events of a line that loses nothing

-- a world on a line that has lost nothing, all of whose words lie in memory
pub record IsClean (w : Scene) : Type 0 where
  pub kept : IsKept w
  pub none_lost : toll_of w ≡ none_yet
  pub lies : (i : ℕ) → i < length w.core.plan.words → LiesIn w i
  pub idle : Idle w.core.phase w.down

-- what an event types, and then the keys that are left, are the keys that were left; and no key is under way between answers
pub record TypesNext (w next : Scene) (keys : List ℕ) : Type 0 where
  pub goes_on : keys ++ keys_left next ≡ keys_left w
  pub idle : Idle next.core.phase next.down
  pub none_lost : toll_of next ≡ none_yet

paid_whole : (rest up : List ℕ) (spent : ℕ) → BrokenIsPaid rest [] up spent 0 → up ≡ rest
paid_whole rest up spent (inl whole) = whole
paid_whole rest up spent (inr paid) = absurd (omega arith)

-- the host has a word under way only where that word lies in memory
abbrev WordUnderWayLies : Machine → Core → Type 0
WordUnderWayLies m core = core.verified < length core.plan.words → Lies (site (scene m core [] [] none_yet))

-- in a phase that waits for an answer, the character heard is the next of it
live_leads : (phase : Phase) (m : Machine) (core : Core) (c : ℕ) (u : List ℕ) (lost : Toll) (here later : List ℕ) → lost ≡ none_yet → PhaseFits phase (basis_of core) →
    held_number (site (scene m core [] (c ∷ u) lost)) < 65536 → WordUnderWayLies m core → Attempt lost.hurt phase (site (scene m core [] (c ∷ u) lost)) m.mode [] (c ∷ u) core.spent lost.count →
    Leads (site (scene m core [] (c ∷ u) lost)) here later (hears core.careful (word_under_way core) (start_of core) phase c) (left phase (site (scene m core [] (c ∷ u) lost)) here later)
live_leads phase m core c u lost here later none fits wide lies h =
    let t = site (scene m core [] (c ∷ u) lost) in
    let whole = whole_attempt phase t m.mode [] (c ∷ u) core.spent lost none h in
    hears_leads t here later c u phase (basis_of core) fits wide lies whole.facts (paid_whole (rest_of phase t) (c ∷ u) core.spent whole.paid)

phase_leads : (phase : Phase) (m : Machine) (core : Core) (c : ℕ) (u : List ℕ) (lost : Toll) (here later : List ℕ) → lost ≡ none_yet → PhaseFits phase (basis_of core) →
    held_number (site (scene m core [] (c ∷ u) lost)) < 65536 → WordUnderWayLies m core → PhaseHolds phase m core [] (c ∷ u) lost → ended phase ≡ None →
    Leads (site (scene m core [] (c ∷ u) lost)) here later (hears core.careful (word_under_way core) (start_of core) phase c) (left phase (site (scene m core [] (c ∷ u) lost)) here later)
phase_leads Settle m core c u lost here later none fits wide lies h goes = refl
phase_leads (Ended end) m core c u lost here later none fits wide lies h goes = absurd (cc)
phase_leads phase m core c u lost here later none fits wide lies h goes = live_leads phase m core c u lost here later none fits wide lies h

never : (spent : ℕ) (lost : Toll) → lost ≡ none_yet → spent < lost.count → ⊥
never spent lost none paid = let zero : lost.count ≡ 0 = ap (λ (l : Toll). l.count) none in omega (arith, zero, paid)

-- a timeout comes only before the key that resynchronises
quiet_leads : (phase : Phase) (m : Machine) (core : Core) (lost : Toll) (here later : List ℕ) → lost ≡ none_yet → TurnFits m core [] lost (waits core.careful phase) → ended phase ≡ None →
    Leads (site (scene m core [] [] lost)) here later (waits core.careful phase) (left phase (site (scene m core [] [] lost)) here later)
quiet_leads Settle m core lost here later none h goes = (refl, tt)
quiet_leads Go m core lost here later none h goes = absurd (never core.spent lost none h)
quiet_leads (Ended end) m core lost here later none h goes = absurd (cc)
quiet_leads phase m core lost here later none h goes = absurd (never core.spent lost none h.1)

-- after a turn that leads on, a key is under way only to an answer
idle_next : (core : Core) (test : Bool) (start : Option ℕ) → Idle (cond test (sends core (digit_of (word_under_way core).address 1) (Address Look 1)) (after_words core start)).next.phase
    (option_to_list (cond test (sends core (digit_of (word_under_way core).address 1) (Address Look 1)) (after_words core start)).key)
idle_next core true start = tt
idle_next core false (Some s) = tt
idle_next core false None = tt

idle_busy : (phase : Phase) (down : List ℕ) → IsBusy phase → Idle phase down
idle_busy Settle down busy = absurd busy
idle_busy phase down busy = tt

idle_none : (phase : Phase) → Idle phase []
idle_none Settle = refl
idle_none phase = tt

idle_turn : (t : Site) (here later : List ℕ) (core : Core) (turn : Turn) (keys : List ℕ) → Leads t here later turn keys → Idle (taken core turn).next.phase (option_to_list (taken core turn).key)
idle_turn t here later core (Listen phase) keys h = idle_none phase
idle_turn t here later core (Key key phase) keys h = idle_busy phase _ h.1
idle_turn t here later core Verified keys h = tt
idle_turn t here later core (Revisit visit) keys h = tt
idle_turn t here later core Next keys h = idle_next core (ltb core.verified (length core.plan.words)) core.plan.start
idle_turn t here later core Mark keys h = tt
idle_turn t here later core (Stop end) keys h = tt
idle_turn t here later core Stray keys h = absurd h
idle_turn t here later core Timeout keys h = absurd h

still_none : (x : Move) (lost : Toll) → lost ≡ none_yet → onward x.key x.next.phase lost ≡ none_yet
still_none x lost none = subst (λ (l : Toll). onward x.key x.next.phase l ≡ none_yet) (sym none) (ap (λ b. record { count = 0; hurt = b }) (unhurt (renewing x.key x.next.phase)))
  where
    unhurt : (b : Bool) → (if b then false else false) ≡ false
    unhurt true = refl
    unhurt false = refl

types_take : (m : Machine) (core : Core) (c : ℕ) (down up : List ℕ) (lost : Toll) → IsClean (scene m core (c ∷ down) up lost) → ended core.phase ≡ None →
    TypesNext (scene m core (c ∷ down) up lost) (answered (scene m core (c ∷ down) up lost) down (take_of m c)) []
types_take m core c [] [] lost k goes = record {
  goes_on = left_taken core.phase m core c lost (plan_site m core [] [] lost core.verified k.kept.host.image) k.kept.host.image k.kept.host.fits k.kept.phase k.none_lost k.idle goes;
  idle = idle_none core.phase;
  none_lost = k.none_lost;
}
types_take m core c (d ∷ down) up lost k goes = let none = k.kept.one_way.0 in absurd (cc)
types_take m core c [] (u ∷ up) lost k goes = let none = k.kept.one_way.1 in absurd (cc)

types_hear : (m : Machine) (core : Core) (c : ℕ) (u : List ℕ) (lost : Toll) → IsClean (scene m core [] (c ∷ u) lost) → ended core.phase ≡ None →
    TypesNext (scene m core [] (c ∷ u) lost) (stepped (scene m core [] (c ∷ u) lost) u (move core (Got c))) (option_to_list (move core (Got c)).key)
types_hear m core c u lost k goes =
    let t = site (scene m core [] (c ∷ u) lost) in
    let here = keys_from core m.memory core.verified in
    let later = keys_from core m.memory (core.verified + 1) in
    let leads = phase_leads core.phase m core c u lost here later k.none_lost k.kept.host.fits (k.kept.machine.wide _) (k.lies core.verified) k.kept.phase goes in
    record {
      goes_on = left_turn m core (c ∷ u) u lost (hears core.careful (word_under_way core) (start_of core) core.phase c) _ leads;
      idle = idle_turn t here later core (hears core.careful (word_under_way core) (start_of core) core.phase c) _ leads;
      none_lost = still_none (move core (Got c)) lost k.none_lost;
    }

types_quiet : (m : Machine) (core : Core) (lost : Toll) → IsClean (scene m core [] [] lost) → ended core.phase ≡ None →
    TypesNext (scene m core [] [] lost) (stepped (scene m core [] [] lost) [] (move core Silence)) (option_to_list (move core Silence).key)
types_quiet m core lost k goes =
    let t = site (scene m core [] [] lost) in
    let here = keys_from core m.memory core.verified in
    let later = keys_from core m.memory (core.verified + 1) in
    let fits = fits_silence m core lost core.phase k.kept.phase k.kept.running (past_mark core k.kept.host.mark) in
    let leads = quiet_leads core.phase m core lost here later k.none_lost fits goes in
    record {
      goes_on = left_turn m core [] [] lost (waits core.careful core.phase) _ leads;
      idle = idle_turn t here later core (waits core.careful core.phase) _ leads;
      none_lost = still_none (move core Silence) lost k.none_lost;
    }

types_first : (m : Machine) (core : Core) (down up : List ℕ) (lost : Toll) → IsClean (scene m core down up lost) → ended core.phase ≡ None →
    let w = scene m core down up lost in TypesNext w (happens w (first_of down up)) (typed_in w (first_of down up))
types_first m core (c ∷ down) up lost k goes = types_take m core c down up lost k goes
types_first m core [] (c ∷ up) lost k goes = types_hear m core c up lost k goes
types_first m core [] [] lost k goes = types_quiet m core lost k goes

-- the next event leaves a clean world
clean_next : (w : Scene) → IsClean w → TypesNext w (happens w (first_event w)) (typed_in w (first_event w)) → IsClean (happens w (first_event w))
clean_next w k next =
    let s : Steps w (happens w (first_event w)) = steps_event w (first_event w) k.kept in
    record {
      kept = kept_event w (first_event w) k.kept;
      none_lost = next.none_lost;
      lies = λ i below. still w (happens w (first_event w)) i s (k.lies i (subst (λ (p : PlanValue). i < length p.words) s.plan below));
      idle = next.idle;
    }
  where
    still : (w next : Scene) (i : ℕ) → Steps w next → LiesIn w i → LiesIn next i
    still w next i s lies = rw s.plan (lies_same w.machine.memory next.machine.memory (word_nr w.core.plan.words i).address s.bytes.size lies)

-- the keys typed up to the end are the keys that were left
types_left : (w : Scene) (events : List Event) → IsClean w → IsCleanRun w events → typed w events ≡ keys_left w
types_left w [] k run = at_end w.core.phase _ _ _ run
  where
    at_end : (phase : Phase) (t : Site) (here later : List ℕ) → IsSome (ended phase) → [] ≡ left phase t here later
    at_end (Ended end) t here later e = refl
    at_end phase t here later e = absurd (cc e)
types_left w (event ∷ events) k run =
    let next : TypesNext w (happens w (first_event w)) (typed_in w (first_event w)) = types_first w.machine w.core w.down w.up (toll_of w) k run.0 in
    let rest : typed (happens w (first_event w)) events ≡ keys_left (happens w (first_event w)) =
    types_left (happens w (first_event w)) events (clean_next w k next) (subst (λ e. IsCleanRun (happens w e) events) run.1 run.2) in
    subst (λ e. typed_in w e ++ typed (happens w e) events ≡ keys_left w) (sym run.1) (ap (λ keys. typed_in w (first_event w) ++ keys) rest ∙ next.goes_on)

-- what is left at the beginning of a life with nothing verified is the clean text
left_first : (careful : Bool) (words : List WordValue) (start : Option ℕ) (t : Site) (later : List ℕ) (memory : List ℕ) →
    t.careful ≡ careful → left (if 0 == length words && is_none start then Ended Loaded else Settle) t (words_keys careful words memory ++ start_keys start) later ≡ clean_text careful words memory start
left_first careful [] None t later memory is = refl
left_first careful [] (Some s) t later memory is = rw is refl
left_first careful (w ∷ words) start t later memory is = settled (eqb 0 (suc (length words))) (some (length words))
  where
    some : (n : ℕ) → eqb 0 (suc n) ≡ false
    some n = grind (arith, nat_tests)

    settled : (test : Bool) → test ≡ false →
        left (if test && is_none start then Ended Loaded else Settle) t (words_keys careful (w ∷ words) memory ++ start_keys start) later ≡ clean_text careful (w ∷ words) memory start
    settled true e = absurd (cc)
    settled false e = rw is refl

left_fresh : (careful : Bool) (plan : PlanValue) (patience : ℕ) (m : Machine) (down up : List ℕ) (lost : Toll) → keys_left (scene m (begun_by careful plan 0 false patience) down up lost) ≡ clean_text careful plan.words m.memory plan.start
left_fresh careful plan patience m down up lost = left_first careful plan.words plan.start _ _ m.memory refl

-- on a line that loses nothing, where every word lies in memory, the keys typed are the clean text
pub clean_typed : (w : Scene) (events : List Event) → IsKept w → IsAtOpening w → ((i : ℕ) → i < length w.core.plan.words → LiesIn w i) → IsCleanRun w events →
    typed w events ≡ clean_text w.core.careful w.core.plan.words w.machine.memory w.core.plan.start
clean_typed w events k opening lies run =
    types_left w events record { kept = k; none_lost = none_of w.lost w.changed opening.none_lost opening.none_changed; lies = lies; idle = rw opening.none_down (idle_none w.core.phase) } run
    ∙ ap (λ (core : Core). keys_left (scene w.machine core w.down w.up (toll_of w))) opening.fresh
    ∙ left_fresh w.core.careful w.core.plan w.core.patience w.machine w.down w.up (toll_of w)
  where
    none_of : (lost : ℕ) (changed : Bool) → lost ≡ 0 → changed ≡ false → record { count = lost; hurt = changed } ≡ none_yet
    none_of lost changed e f = rw (e, f) refl

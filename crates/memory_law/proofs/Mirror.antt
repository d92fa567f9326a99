-- Between two deposits a testing host does step by step what a loading host does whose plan is the word under way.
use Rattle.std.proofs.Common.{◌≡◌, ℕ, ◌+◌, ◌≤◌, Bool, true, false, ◌==◌, nat_lt, if◌then◌else◌, List, length, Some, inl, inr, refl, arith, ap, sym, subst, ◌∙◌}
use Rattle.std.specs.Prelude.{◌⊎◌}
use borrow.Author.Tests.{eqb-true}
use Rattle.octal.specs.Octal.{digit_of}
use Rattle.tape_image.specs.Word.{WordValue}
use Rattle.odt_machine.specs.Machine.{stored}
use Rattle.host_core.specs.declared.heard.Heard.{Heard}
use Rattle.host_core.specs.declared.heard.Heard.TheVariants.{Got, Quiet}
use Rattle.host_core.specs.declared.phase.Try.TheVariants.{Only}
use Rattle.host_core.specs.declared.phase.Visit.TheVariants.{Look as LoadLook, Check as LoadCheck}
use Rattle.memory_core.specs.declared.phase.Visit.{Visit}
use Rattle.memory_core.specs.declared.phase.Visit.TheVariants.{Look, Check}
use Rattle.host_core.specs.declared.phase.Phase.{Phase as LoadPhase}
use Rattle.host_core.specs.declared.phase.Phase.TheVariants.{Settle as LoadSettle, Sync as LoadSync, Address as LoadAddress, Slash as LoadSlash, Before as LoadBefore, Value as LoadValue, Deposit as LoadDeposit, Return as LoadReturn, Ended as LoadEnded}
use Rattle.host_core.specs.declared.phase.Reason.TheVariants.{Store, Close as Closes}
use Rattle.host_core.specs.declared.phase.End.{End as LoadEnd}
use Rattle.host_core.specs.declared.phase.End.TheVariants.{Loaded, GaveUp as LoadGaveUp, NoWord as LoadNoWord}
use Rattle.host_core.specs.declared.turn.Turn.{Turn as LoadTurn}
use Rattle.host_core.specs.declared.turn.Turn.TheVariants.{Listen as LoadListen, Key as LoadKey, Revisit as LoadRevisit, Next as LoadNext, Stop as LoadStop, Stray as LoadStray, Timeout as LoadTimeout}
use Rattle.host_core.specs.declared.answers.Reading.TheVariants.{Number}
use Rattle.host_core.specs.Answers.{resynchronise_reply, return_reply, digit_echo, reading_start, reading_rest}
use Rattle.host_core.specs.Core.{Core, word_under_way}
use Rattle.host_core.specs.PhaseTable.{Move, move, sends as load_sends, listens as load_listens, taken as load_taken, turn_of as load_turn_of, hears as load_hears, waits as load_waits, synced as load_synced, echoed as load_echoed, address_hears as load_address_hears, deposit_hears as load_deposit_hears, reads as load_reads, returns as load_returns}
use Rattle.host_core.proofs.Frame.{on_test}
use Rattle.host_core.proofs.Replies.{resynchronise_walk, return_walk, echo_walk, start_walk, rest_walk}
use Rattle.line_world.specs.Scene.{Scene, over}
use Rattle.line_world.specs.Wire.{Wire}
use Rattle.looking_law.proofs.Saying.{plan_for}
use Rattle.memory_core.specs.declared.phase.Phase.{Phase}
use Rattle.memory_core.specs.declared.phase.Phase.TheVariants.{Settle, Sync, Address, Slash, Before, Value, Deposit, Return, Close, Ended}
use Rattle.memory_core.specs.declared.phase.End.{End}
use Rattle.memory_core.specs.declared.phase.End.TheVariants.{Complete, GaveUp, NoWord}
use Rattle.memory_core.specs.declared.stage.Stage.{Stage}
use Rattle.memory_core.specs.declared.seen.Seen.TheVariants.{Unsteady}
use Rattle.memory_core.specs.declared.stage.Stage.TheVariants.{Unseen, Once, Turned, Returned}
use Rattle.memory_core.specs.declared.turn.Turn.{Turn}
use Rattle.memory_core.specs.declared.turn.Turn.TheVariants.{Listen, Key, LooksAgain, Deposits, Counts, ReadBack, Next, Stop, Stray, Timeout}
use Rattle.memory_core.specs.MemoryTable.{TesterStep, ask, taken, turn_of, hears, waits, sends, listens, synced, addressed, read, reads, deposited, returned, closed}
use Rattle.memory_core.specs.Stage.{number_of}
use Rattle.memory_core.specs.Tester.{Tester, address_under_way}
use Rattle.memory_law.proofs.Ahead.{ahead, more_words, under_way}
use Rattle.memory_law.proofs.Switches.{visit_for}

-- ---- the same of the loading host

abbrev pub end_for : End → LoadEnd
end_for Complete = Loaded
end_for GaveUp = LoadGaveUp
end_for (NoWord a) = LoadNoWord a

abbrev pub phase_for : Stage → Phase → LoadPhase
phase_for stage Settle = LoadSettle
phase_for stage (Sync place) = LoadSync place
phase_for stage (Address visit place) = LoadAddress (visit_for (number_of stage) visit) place
phase_for stage (Slash visit) = LoadSlash (visit_for (number_of stage) visit)
phase_for stage (Before visit) = LoadBefore (visit_for (number_of stage) visit)
phase_for stage (Value visit value place) = LoadValue (visit_for (number_of stage) visit) value place
phase_for stage (Deposit place) = LoadDeposit Only (number_of stage) place
phase_for stage (Return place) = LoadReturn (Store Only (number_of stage)) place
phase_for stage (Close place) = LoadReturn Closes place
phase_for stage (Ended end) = LoadEnded (end_for end)

-- memory as it will be once the number is deposited
abbrev pub given : List ℕ → ℕ → Stage → List ℕ
given memory a Unseen = memory
given memory a (Once first) = memory
given memory a (Turned old) = stored memory a (number_of (Turned old))
given memory a (Returned old turned) = stored memory a (number_of (Returned old turned))

-- the counts of a loading host that began with the last deposit, and of the losses since
pub record Account : Type 0 where
  pub patience : ℕ
  pub spent : ℕ
  pub sent : ℕ
  pub lost : ℕ

-- the loading host whose plan is that memory will hold the number at the address under way
abbrev pub core_for : List ℕ → Tester → Account → Core
core_for memory t a = record {
  careful = false;
  plan = plan_for (given memory (address_under_way t) t.stage) (ahead t);
  verified = 0;
  going = false;
  patience = a.patience;
  spent = a.spent;
  sent = a.sent;
  phase = phase_for t.stage t.phase;
}

-- the same world with it at the end of the line
abbrev pub scene_for : List ℕ → Tester → Account → Wire → Scene
scene_for memory t a x = over (core_for memory t a) (record x { lost = a.lost })

-- ---- a turn

-- the loading host's turn is the same, unless another number is to be deposited or the word is done
abbrev Agrees : Stage → Turn → LoadTurn → Type 0
Agrees stage (Listen phase) turn = turn ≡ LoadListen (phase_for stage phase)
Agrees stage (Key key phase) turn = turn ≡ LoadKey key (phase_for stage phase)
Agrees stage (LooksAgain first) turn = Unit {0}
Agrees stage (Deposits next) turn = Unit {0}
Agrees stage (Counts word) turn = Unit {0}
Agrees stage ReadBack turn = turn ≡ LoadRevisit (LoadCheck Only (number_of stage))
Agrees stage Next turn = turn ≡ LoadNext
Agrees stage (Stop end) turn = turn ≡ LoadStop (end_for end)
Agrees stage Stray turn = turn ≡ LoadStray
Agrees stage Timeout turn = turn ≡ LoadTimeout

sync_agrees : (stage : Stage) (place c : ℕ) → Agrees stage (synced (resynchronise_reply place c)) (load_synced (resynchronise_reply place c))
sync_agrees stage place c = resynchronise_walk (λ r. Agrees stage (synced r) (load_synced r)) place c refl (λ _ _. refl) (λ _. refl)

address_agrees : (stage : Stage) (address : ℕ) (visit : Visit) (place c : ℕ) → Agrees stage (addressed visit place (digit_echo address place c)) (load_address_hears address (visit_for (number_of stage) visit) place c)
address_agrees stage address visit place c =
    echo_walk (λ e. Agrees stage (addressed visit place e) (load_echoed e (LoadAddress (visit_for (number_of stage) visit) (place + 1)) (LoadKey 47 (LoadSlash (visit_for (number_of stage) visit))))) address place c refl (λ _ _. refl) (λ _ _. refl)

read_agrees : (stage : Stage) (visit : Visit) (value : ℕ) (turn : LoadTurn) → Agrees stage (read stage visit value) turn
read_agrees Unseen Look value turn = tt
read_agrees Unseen Check value turn = tt
read_agrees (Once first) visit value turn = on_test (λ v. Agrees (Once first) (if v then Deposits (Turned value) else Counts (Unsteady first value)) turn) (value == first) (λ _. tt) (λ _. tt)
read_agrees (Turned old) Look value turn = tt
read_agrees (Turned old) Check value turn = tt
read_agrees (Returned old turned) Look value turn = tt
read_agrees (Returned old turned) Check value turn = tt

before_agrees : (stage : Stage) (word : WordValue) (visit : Visit) (c : ℕ) → Agrees stage (reads word.address stage visit (reading_start c)) (load_reads false word (visit_for (number_of stage) visit) (reading_start c))
before_agrees stage word visit c = start_walk (λ r. Agrees stage (reads word.address stage visit r) (load_reads false word (visit_for (number_of stage) visit) r)) c refl refl refl (λ _ _. refl)

value_agrees : (stage : Stage) (word : WordValue) (visit : Visit) (value place c : ℕ) → Agrees stage (reads word.address stage visit (reading_rest value place c)) (load_reads false word (visit_for (number_of stage) visit) (reading_rest value place c))
value_agrees stage word visit value place c =
    rest_walk (λ r. Agrees stage (reads word.address stage visit r) (load_reads false word (visit_for (number_of stage) visit) r)) value place c refl (λ _ _ _. refl) (λ _ _ _. refl)
    (λ _ _. read_agrees stage visit value (load_reads false word (visit_for (number_of stage) visit) (Number value)))

deposit_agrees : (stage : Stage) (place c : ℕ) → Agrees stage (deposited place (digit_echo (number_of stage) place c)) (load_deposit_hears Only (number_of stage) place c)
deposit_agrees stage place c =
    echo_walk (λ e. Agrees stage (deposited place e) (load_echoed e (LoadDeposit Only (number_of stage) (place + 1)) (LoadKey 13 (LoadReturn (Store Only (number_of stage)) 0)))) (number_of stage) place c refl (λ _ _. refl) (λ _ _. refl)

return_agrees : (stage : Stage) (place c : ℕ) → Agrees stage (returned (return_reply place c)) (load_returns (Store Only (number_of stage)) (return_reply place c))
return_agrees stage place c = return_walk (λ r. Agrees stage (returned r) (load_returns (Store Only (number_of stage)) r)) place c refl (λ _ _. refl) (λ _. refl)

close_agrees : (stage : Stage) (place c : ℕ) → Agrees stage (closed (return_reply place c)) (load_returns Closes (return_reply place c))
close_agrees stage place c = return_walk (λ r. Agrees stage (closed r) (load_returns Closes r)) place c refl (λ _ _. refl) (λ _. refl)

slash_agrees : (stage : Stage) (visit : Visit) (test : Bool) → Agrees stage (if test then Listen (Before visit) else Stray) (if test then LoadListen (LoadBefore (visit_for (number_of stage) visit)) else LoadStray)
slash_agrees stage visit true = refl
slash_agrees stage visit false = refl

hears_agree : (stage : Stage) (word : WordValue) (start : ℕ) (phase : Phase) (c : ℕ) → Agrees stage (hears word.address stage phase c) (load_hears false word start (phase_for stage phase) c)
hears_agree stage word start Settle c = refl
hears_agree stage word start (Sync place) c = sync_agrees stage place c
hears_agree stage word start (Address visit place) c = address_agrees stage word.address visit place c
hears_agree stage word start (Slash visit) c = slash_agrees stage visit (c == 47)
hears_agree stage word start (Before visit) c = before_agrees stage word visit c
hears_agree stage word start (Value visit value place) c = value_agrees stage word visit value place c
hears_agree stage word start (Deposit place) c = deposit_agrees stage place c
hears_agree stage word start (Return place) c = return_agrees stage place c
hears_agree stage word start (Close place) c = close_agrees stage place c
hears_agree stage word start (Ended end) c = refl

waits_agree : (stage : Stage) (phase : Phase) → Agrees stage (waits phase) (load_waits false (phase_for stage phase))
waits_agree stage Settle = refl
waits_agree stage (Sync place) = refl
waits_agree stage (Address visit place) = refl
waits_agree stage (Slash visit) = refl
waits_agree stage (Before visit) = refl
waits_agree stage (Value visit value place) = refl
waits_agree stage (Deposit place) = refl
waits_agree stage (Return place) = refl
waits_agree stage (Close place) = refl
waits_agree stage (Ended end) = refl

turn_agrees : (memory : List ℕ) (t : Tester) (a : Account) (heard : Heard) → Agrees t.stage (turn_of t heard) (load_turn_of (core_for memory t a) heard)
turn_agrees memory t a (Got c) =
    subst (λ address. Agrees t.stage (hears address t.stage t.phase c) (load_turn_of (core_for memory t a) (Got c))) (under_way (given memory (address_under_way t) t.stage) t)
    (hears_agree t.stage (word_under_way (core_for memory t a)) 0 t.phase c)
turn_agrees memory t a Quiet = waits_agree t.stage t.phase

-- ---- a step

-- a turn that the loading host takes as well
abbrev pub IsPlain : Turn → Type 0
IsPlain (LooksAgain first) = ⊥
IsPlain (Deposits next) = ⊥
IsPlain (Counts word) = ⊥
IsPlain turn = Unit {0}

-- after its step the loading host is the one for the tester after its own, and both send the same
pub record Follows (memory : List ℕ) (t : Tester) (a : Account) (m : Move) (s : TesterStep) : Type 0 where
  pub account : Account
  pub next : m.next ≡ core_for memory s.next account
  pub key : m.key ≡ s.key
  pub lost : account.lost ≡ a.lost
  pub patience : account.patience ≡ a.patience
  pub spent : s.next.spent + a.spent ≡ t.spent + account.spent
  pub stage : s.next.stage ≡ t.stage
  pub seen : s.next.seen ≡ t.seen

-- the account with a key more
abbrev more_sent : Account → Account
more_sent a = record a { sent = a.sent + 1 }

abbrev more_spent : Account → Account
more_spent a = record a { spent = a.spent + 1 }

one_more_each : (n m : ℕ) → n + 1 + m ≡ n + (m + 1)
one_more_each n m = omega arith

both_tests : (memory : List ℕ) (t : Tester) (a : Account) (test other : Bool) (m n : Move) (s u : TesterStep) → test ≡ other → Follows memory t a m s → Follows memory t a n u → Follows memory t a (if test then m else n) (if other then s else u)
both_tests memory t a test true m n s u same one two = subst (λ v. Follows memory t a (if v then m else n) s) (sym same) one
both_tests memory t a test false m n s u same one two = subst (λ v. Follows memory t a (if v then m else n) u) (sym same) two

taken_follows : (memory : List ℕ) (t : Tester) (a : Account) (turn : Turn) (load : LoadTurn) → IsPlain turn → Agrees t.stage turn load → nat_lt a.spent a.patience ≡ nat_lt t.spent t.patience →
    Follows memory t a (load_taken (core_for memory t a) load) (taken t turn)
taken_follows memory t a (Listen phase) load plain agrees same =
    subst (λ l. Follows memory t a (load_taken (core_for memory t a) l) (taken t (Listen phase))) (sym agrees)
    record { account = a; next = refl; key = refl; lost = refl; patience = refl; spent = refl; stage = refl; seen = refl }
taken_follows memory t a (Key key phase) load plain agrees same =
    subst (λ l. Follows memory t a (load_taken (core_for memory t a) l) (taken t (Key key phase))) (sym agrees)
    record { account = more_sent a; next = refl; key = refl; lost = refl; patience = refl; spent = refl; stage = refl; seen = refl }
taken_follows memory t a (LooksAgain first) load plain agrees same = absurd plain
taken_follows memory t a (Deposits next) load plain agrees same = absurd plain
taken_follows memory t a (Counts word) load plain agrees same = absurd plain
taken_follows memory t a ReadBack load plain agrees same =
    subst (λ l. Follows memory t a (load_taken (core_for memory t a) l) (taken t ReadBack)) (sym agrees)
    record { account = more_sent a; next = refl; key = ap (λ address. Some (digit_of address 1)) (under_way (given memory (address_under_way t) t.stage) t); lost = refl; patience = refl; spent = refl; stage = refl; seen = refl }
taken_follows memory t a Next load plain agrees same =
    let core = core_for memory t a in
    subst (λ l. Follows memory t a (load_taken core l) (taken t Next)) (sym agrees)
    (both_tests memory t a (nat_lt 0 (length core.plan.words)) (nat_lt (length t.seen) (length t.addresses)) (load_sends core (digit_of (word_under_way core).address 1) (LoadAddress LoadLook 1)) (load_listens core (LoadEnded Loaded))
    (sends t (digit_of (address_under_way t) 1) (Address Look 1)) (listens t (Ended Complete))
    (more_words (given memory (address_under_way t) t.stage) (nat_lt (length t.seen) (length t.addresses)) (address_under_way t))
    record { account = more_sent a; next = refl; key = ap (λ address. Some (digit_of address 1)) (under_way (given memory (address_under_way t) t.stage) t); lost = refl; patience = refl; spent = refl; stage = refl; seen = refl }
    record { account = a; next = refl; key = refl; lost = refl; patience = refl; spent = refl; stage = refl; seen = refl })
taken_follows memory t a (Stop end) load plain agrees same =
    subst (λ l. Follows memory t a (load_taken (core_for memory t a) l) (taken t (Stop end))) (sym agrees)
    record { account = a; next = refl; key = refl; lost = refl; patience = refl; spent = refl; stage = refl; seen = refl }
taken_follows memory t a Stray load plain agrees same =
    let core = core_for memory t a in
    subst (λ l. Follows memory t a (load_taken core l) (taken t Stray)) (sym agrees)
    (both_tests memory t a (nat_lt a.spent a.patience) (nat_lt t.spent t.patience) (load_listens (record core { spent = a.spent + 1 }) LoadSettle) (load_listens core (LoadEnded LoadGaveUp))
    (listens (record t { spent = t.spent + 1 }) Settle) (listens t (Ended GaveUp)) same
    record { account = more_spent a; next = refl; key = refl; lost = refl; patience = refl; spent = one_more_each t.spent a.spent; stage = refl; seen = refl }
    record { account = a; next = refl; key = refl; lost = refl; patience = refl; spent = refl; stage = refl; seen = refl })
taken_follows memory t a Timeout load plain agrees same =
    let core = core_for memory t a in
    subst (λ l. Follows memory t a (load_taken core l) (taken t Timeout)) (sym agrees)
    (both_tests memory t a (nat_lt a.spent a.patience) (nat_lt t.spent t.patience) (load_sends (record core { spent = a.spent + 1 }) 90 (LoadSync 0)) (load_listens core (LoadEnded LoadGaveUp))
    (sends (record t { spent = t.spent + 1 }) 90 (Sync 0)) (listens t (Ended GaveUp)) same
    record { account = more_sent (more_spent a); next = refl; key = refl; lost = refl; patience = refl; spent = one_more_each t.spent a.spent; stage = refl; seen = refl }
    record { account = a; next = refl; key = refl; lost = refl; patience = refl; spent = refl; stage = refl; seen = refl })

pub follows : (memory : List ℕ) (t : Tester) (a : Account) (heard : Heard) → IsPlain (turn_of t heard) → nat_lt a.spent a.patience ≡ nat_lt t.spent t.patience →
    Follows memory t a (move (core_for memory t a) heard) (ask t heard)
follows memory t a heard plain same = taken_follows memory t a (turn_of t heard) (load_turn_of (core_for memory t a) heard) plain (turn_agrees memory t a heard) same

-- ---- which turns are plain

-- the last character of a whole reading of the word under way
pub record IsWhole (t : Tester) (c : ℕ) : Type 0 where
  pub visit : Visit
  pub value : ℕ
  pub phase : t.phase ≡ Value visit value 6
  pub blank : c ≡ 32
  pub turn : turn_of t (Got c) ≡ read t.stage visit value

plain_test : (test : Bool) (one other : Turn) → IsPlain one → IsPlain other → IsPlain (if test then one else other)
plain_test test one other p q = on_test (λ v. IsPlain (if v then one else other)) test (λ _. p) (λ _. q)

plain_sync : (place c : ℕ) → IsPlain (synced (resynchronise_reply place c))
plain_sync place c = resynchronise_walk (λ r. IsPlain (synced r)) place c tt (λ _ _. tt) (λ _. tt)

plain_address : (address : ℕ) (visit : Visit) (place c : ℕ) → IsPlain (addressed visit place (digit_echo address place c))
plain_address address visit place c = echo_walk (λ e. IsPlain (addressed visit place e)) address place c tt (λ _ _. tt) (λ _ _. tt)

plain_before : (address : ℕ) (stage : Stage) (visit : Visit) (c : ℕ) → IsPlain (reads address stage visit (reading_start c))
plain_before address stage visit c = start_walk (λ r. IsPlain (reads address stage visit r)) c tt tt tt (λ _ _. tt)

plain_deposit : (number place c : ℕ) → IsPlain (deposited place (digit_echo number place c))
plain_deposit number place c = echo_walk (λ e. IsPlain (deposited place e)) number place c tt (λ _ _. tt) (λ _ _. tt)

plain_return : (place c : ℕ) → IsPlain (returned (return_reply place c))
plain_return place c = return_walk (λ r. IsPlain (returned r)) place c tt (λ _ _. tt) (λ _. tt)

plain_close : (place c : ℕ) → IsPlain (closed (return_reply place c))
plain_close place c = return_walk (λ r. IsPlain (closed r)) place c tt (λ _ _. tt) (λ _. tt)

-- a reading that goes on, or the last character of one
abbrev GoesOn : ℕ → Stage → Visit → ℕ → ℕ → ℕ → Turn → Type 0
GoesOn address stage visit value place c turn = IsPlain turn ⊎ ((6 ≤ place) × (c ≡ 32) × (turn ≡ read stage visit value))

value_goes_on : (address : ℕ) (stage : Stage) (visit : Visit) (value place c : ℕ) → GoesOn address stage visit value place c (reads address stage visit (reading_rest value place c))
value_goes_on address stage visit value place c =
    rest_walk (λ r. GoesOn address stage visit value place c (reads address stage visit r)) value place c (inl tt) (λ _ _ _. inl tt) (λ _ _ _. inl tt)
    (λ all blank. inr (all, eqb-true _ _ blank, refl))

whole_of : (t : Tester) (visit : Visit) (value place c : ℕ) → t.phase ≡ Value visit value place → place ≤ 6 →
    IsPlain (reads (address_under_way t) t.stage visit (reading_rest value place c)) ⊎ ((6 ≤ place) × (c ≡ 32) × (reads (address_under_way t) t.stage visit (reading_rest value place c) ≡ read t.stage visit value)) →
    IsPlain (turn_of t (Got c)) ⊎ IsWhole t c
whole_of t visit value place c is within (inl plain) = inl (subst (λ phase. IsPlain (hears (address_under_way t) t.stage phase c)) (sym is) plain)
whole_of t visit value place c is within (inr (all, blank, turn)) = inr (record {
  visit = visit;
  value = value;
  phase = is ∙ ap (Value visit value) (six place all within);
  blank = blank;
  turn = ap (λ phase. hears (address_under_way t) t.stage phase c) is ∙ turn;
})
  where
    six : (place : ℕ) → 6 ≤ place → place ≤ 6 → place ≡ 6
    six place low high = omega arith

in_phase : (t : Tester) (phase : Phase) (c : ℕ) → t.phase ≡ phase → IsPlain (hears (address_under_way t) t.stage phase c) → IsPlain (turn_of t (Got c)) ⊎ IsWhole t c
in_phase t phase c is plain = inl (subst (λ p. IsPlain (hears (address_under_way t) t.stage p c)) (sym is) plain)

pub plain_or_whole : (t : Tester) (c : ℕ) (phase : Phase) → t.phase ≡ phase → ((visit : Visit) (value place : ℕ) → phase ≡ Value visit value place → place ≤ 6) → IsPlain (turn_of t (Got c)) ⊎ IsWhole t c
plain_or_whole t c Settle is within = in_phase t Settle c is tt
plain_or_whole t c (Sync place) is within = in_phase t (Sync place) c is (plain_sync place c)
plain_or_whole t c (Address visit place) is within = in_phase t (Address visit place) c is (plain_address (address_under_way t) visit place c)
plain_or_whole t c (Slash visit) is within = in_phase t (Slash visit) c is (plain_test (c == 47) (Listen (Before visit)) Stray tt tt)
plain_or_whole t c (Before visit) is within = in_phase t (Before visit) c is (plain_before (address_under_way t) t.stage visit c)
plain_or_whole t c (Value visit value place) is within = whole_of t visit value place c is (within visit value place refl) (value_goes_on (address_under_way t) t.stage visit value place c)
plain_or_whole t c (Deposit place) is within = in_phase t (Deposit place) c is (plain_deposit (number_of t.stage) place c)
plain_or_whole t c (Return place) is within = in_phase t (Return place) c is (plain_return place c)
plain_or_whole t c (Close place) is within = in_phase t (Close place) c is (plain_close place c)
plain_or_whole t c (Ended end) is within = in_phase t (Ended end) c is tt

pub plain_silence : (t : Tester) (phase : Phase) → t.phase ≡ phase → IsPlain (turn_of t Quiet)
plain_silence t phase is = subst (λ p. IsPlain (waits p)) (sym is) (here phase)
  where
    here : (phase : Phase) → IsPlain (waits phase)
    here Settle = tt
    here (Sync place) = tt
    here (Address visit place) = tt
    here (Slash visit) = tt
    here (Before visit) = tt
    here (Value visit value place) = tt
    here (Deposit place) = tt
    here (Return place) = tt
    here (Close place) = tt
    here (Ended end) = tt

-- Passes one after another: what was said in them, and what they find.
use Rattle.std.proofs.Common.{◌≡◌, ℕ, ◌+◌, ◌*◌, ◌<◌, ◌≤◌, List, [], ◌∷◌, length, Some, Ok, Err, refl, arith, ap, subst, sym, ◌∙◌, append-nil}
use Rattle.tape_image.specs.Memory.{top_of}
use Rattle.odt_machine.specs.Machine.{Machine}
use Rattle.host_devices.specs.declared.item.Item.{Item}
use Rattle.host_devices.specs.Devices.{LineTold}
use Rattle.host_devices.specs.Dialogue.{keys_of}
use Rattle.host_devices.specs.Failures.{CountsFault, IsLastFault}
use Rattle.host_devices.specs.Told.{Gains}
use Rattle.host_devices.proofs.Told.{gains_none, gains_join}
use Rattle.looking_engine.specs.Honest.{IsHonest}
use Rattle.looking_engine.specs.Stopping.{LookStop, line_fault}
use Rattle.engine.specs.declared.stop.Cut.TheVariants.{LineFailed, TurnsOver}
use Rattle.looking_engine.specs.Belief.{IsBelievableAt}
use Rattle.looking_engine.proofs.Beliefs.{inquired_believable}
use Rattle.reading_core.specs.declared.phase.End.{End}
use Rattle.reading_core.specs.declared.phase.End.TheVariants.{Complete, GaveUp, NoWord}
use Rattle.reading_core.specs.Invariant.{IsReader}
use Rattle.reading_core.specs.Reader.{Reader, begun}
use Rattle.reading_core.proofs.Lives.{led_addresses, led_kept, led_patience}
use Rattle.looking_law.specs.Belief.{IsReadyMachine, IsTrueReading, MayLook, dialogue}
use Rattle.looking_law.specs.Harmless.{HoldsRead}
use Rattle.looking_law.proofs.Believed.{leave_ready}
use Rattle.machine_probe.specs.declared.memory_end.Limits.{Limits}
use Rattle.machine_probe.specs.declared.memory_end.PassEnd.TheVariants.{Lacking, Over}
use Rattle.machine_probe.specs.declared.pieces.Pieces.{Pieces}
use Rattle.machine_probe.specs.declared.search.Search.{Search}
use Rattle.machine_probe.specs.declared.search.Search.TheVariants.{Ends, Stopped}
use Rattle.machine_probe.specs.MemoryEnd.{IsTrueEnd, FindsEnd, stop_of}
use Rattle.machine_probe.specs.Passes.{ArePieces, IsPass, LastPass, NoPassLeft, OnePassMore, Searches, ahead, found, last_words, pass_over, passed, three_passes}
use Rattle.looking_law.specs.Rows.{AreHonest, in_a_row}
use Rattle.machine_probe.specs.Steps.{LiesWithin, Stepped}
use Rattle.machine_probe.proofs.Founds.{IsOver, all_read, lacking, paid_at, reached}

-- ---- one pass

may_look : (addresses : List ℕ) (patience : ℕ) (machine : Machine) → IsReadyMachine machine → MayLook (begun addresses [] patience) machine
may_look addresses patience machine ready = record {
  begun = refl;
  console = ready.console;
  stopped = ready.stopped;
  read = record { lies = λ i low. absurd (omega (arith, low)); holds = λ i low. absurd (omega (arith, low)) };
}

-- the first reader of a pass
abbrev first : (patience from : ℕ) (pieces : Pieces) → Reader
first patience from pieces = begun (last_words from pieces.bytes pieces.count) [] patience

is_over : (limits : Limits) (from : ℕ) (pieces : Pieces) (stop : LookStop) (last : Reader) (said : List Item) → IsReader (first limits.patience from pieces) → IsPass (pass_over limits from pieces) stop last said → IsOver from pieces last
is_over limits from pieces stop last said reads pass = let s = pass.inquired in record {
  addresses = ap (λ (r : Reader). r.addresses) s.host ∙ led_addresses (first limits.patience from pieces) s.heard;
  kept = subst IsReader (sym s.host) (led_kept (first limits.patience from pieces) s.heard reads);
}

same_patience : (limits : Limits) (from : ℕ) (pieces : Pieces) (stop : LookStop) (last : Reader) (said : List Item) → IsPass (pass_over limits from pieces) stop last said → last.patience ≡ limits.patience
same_patience limits from pieces stop last said pass = let s = pass.inquired in ap (λ (r : Reader). r.patience) s.host ∙ led_patience (first limits.patience from pieces) s.heard

believed : (limits : Limits) (from : ℕ) (pieces : Pieces) (stop : LookStop) (last : Reader) (said : List Item) → IsReader (first limits.patience from pieces) → IsPass (pass_over limits from pieces) stop last said →
    IsBelievableAt stop (first limits.patience from pieces) last said
believed limits from pieces stop last said reads pass =
    inquired_believable limits.turns (Some stop) (first limits.patience from pieces) last (Some []) (Some said) reads pass.inquired said ([], refl, refl)

-- a pass over an honest line that told an end
true_at : (limits : Limits) (from : ℕ) (pieces : Pieces) (end : End) (last : Reader) (said : List Item) (machine now : Machine) (lost : ℕ) → IsReader (first limits.patience from pieces) → IsPass (pass_over limits from pieces) (Ok end) last said →
    IsReadyMachine machine → IsHonest machine said lost now → IsTrueReading machine.memory last now.memory (keys_of said) (lost + 0)
true_at limits from pieces end last said machine now lost reads pass ready honest =
    believed limits from pieces (Ok end) last said reads pass machine now lost (may_look (last_words from pieces.bytes pieces.count) limits.patience machine ready) honest

-- behind it the next pass may begin
ready_at : (limits : Limits) (from : ℕ) (pieces : Pieces) (end : End) (last : Reader) (said : List Item) (machine now : Machine) (lost : ℕ) → IsReader (first limits.patience from pieces) → IsPass (pass_over limits from pieces) (Ok end) last said →
    IsReadyMachine machine → IsHonest machine said lost now → IsReadyMachine now
ready_at limits from pieces end last said machine now lost reads pass ready honest =
    let s = pass.inquired in
    let whole : said ≡ dialogue (first limits.patience from pieces) s.heard = same said s.said s.on_line ∙ s.items in
    leave_ready (first limits.patience from pieces) s.heard machine now lost reads (may_look (last_words from pieces.bytes pieces.count) limits.patience machine ready) (subst (λ items. IsHonest machine items lost now) whole honest)
  where
    same : (said other : List Item) → Gains (Some []) (Some said) other → said ≡ other
    same said other gains = gains

-- ---- what the passes find that are left, where memory ends not before an address and not behind a limit

abbrev FindsFrom : (from limit patience : ℕ) → Search → ℕ → List (List Item) → Type 0
FindsFrom from limit patience search changed parts =
    (machine now : Machine) (lost : ℕ) → IsReadyMachine machine → from ≤ top_of machine.memory → top_of machine.memory ≤ limit → AreHonest machine parts lost now →
    (now.memory ≡ machine.memory) × IsTrueEnd search machine.memory patience lost × (changed ≡ 0)

-- these passes came to this, and what they find is so
record Runs (passes : List Pieces) (limits : Limits) (from limit : ℕ) (search : Search) (changed : ℕ) (line line' : LineTold) : Type 0 where
  pub parts : List (List Item)
  pub searches : Searches passes (ahead limits from) search changed parts
  pub on_line : Gains line.said line'.said (in_a_row parts)
  pub finds : FindsFrom from limit limits.patience search changed parts
  pub counted : CountsFault (line_fault (stop_of search)) line.failures line'.failures
  pub named : IsLastFault (line_fault (stop_of search)) line'.fault

-- none is left: memory ends here
run_none : (limits : Limits) (from : ℕ) (line : LineTold) → Runs [] limits from from (Ends from) 0 line line
run_none limits from line = record {
  parts = [];
  searches = NoPassLeft (ahead limits from);
  on_line = gains_none line.said;
  finds = λ machine now lost ready reaches within honest. (ap (λ (m : Machine). m.memory) honest.0, omega (arith, reaches, within), refl);
  counted = refl;
  named = tt;
}

-- ---- the last pass

-- what is right of a pass that ended the search
over_right : (limits : Limits) (from : ℕ) (pieces : Pieces) (stop : LookStop) (last : Reader) (said : List Item) (search : Search) (changed : ℕ) → ArePieces from pieces → IsReader (first limits.patience from pieces) → IsPass (pass_over limits from pieces) stop last said →
    Over search ≡ passed stop (found from pieces last) → changed ≡ last.foreign → FindsFrom from (from + pieces.bytes * pieces.count) limits.patience search changed (said ∷ [])
over_right limits from pieces (Ok Complete) last said search changed are reads pass is counted machine now lost ready reaches within (between, lost_first, lost_later, honest, (same, none), all) =
    let t = true_at limits from pieces Complete last said machine between lost_first reads pass ready honest in
    let o = is_over limits from pieces (Ok Complete) last said reads pass in
    let far : found from pieces last ≤ top_of machine.memory = reached machine.memory from pieces last are o reaches (subst (λ m. HoldsRead m last) t.same t.read) in
    let whole : length last.values ≡ pieces.count = all_read from pieces last o pass.end in
    let top : top_of machine.memory ≡ found from pieces last = omega (arith, far, within, ap (λ n. pieces.bytes * n) whole) in
    (ap (λ (m : Machine). m.memory) same ∙ t.same, subst (λ s. IsTrueEnd s machine.memory limits.patience lost) (sym (searched is)) top, counted ∙ t.foreign)
  where
    searched : {found : ℕ} → Over search ≡ Over (Ends found) → search ≡ Ends found
    searched e = cc e
over_right limits from pieces (Ok (NoWord a)) last said search changed are reads pass is counted machine now lost ready reaches within honest = absurd (cc is)
over_right limits from pieces (Ok GaveUp) last said search changed are reads pass is counted machine now lost ready reaches within (between, lost_first, lost_later, honest, (same, none), all) =
    let t = true_at limits from pieces GaveUp last said machine between lost_first reads pass ready honest in
    let paid : last.patience < lost_first + 0 = paid_at last.phase GaveUp between.memory last.patience (lost_first + 0) pass.end t.cause in
    let more : limits.patience < lost = omega (arith, paid, same_patience limits from pieces (Ok GaveUp) last said pass, none, all) in
    (ap (λ (m : Machine). m.memory) same ∙ t.same, subst (λ s. IsTrueEnd s machine.memory limits.patience lost) (sym (searched is)) more, counted ∙ t.foreign)
  where
    searched : Over search ≡ Over (Stopped (Ok GaveUp)) → search ≡ Stopped (Ok GaveUp)
    searched e = cc e
over_right limits from pieces (Err TurnsOver) last said search changed are reads pass is counted machine now lost ready reaches within (between, lost_first, lost_later, honest, (same, none), all) =
    let t = believed limits from pieces (Err TurnsOver) last said reads pass machine between lost_first (may_look (last_words from pieces.bytes pieces.count) limits.patience machine ready) honest in
    (ap (λ (m : Machine). m.memory) same ∙ t.same, subst (λ s. IsTrueEnd s machine.memory limits.patience lost) (sym (searched is)) tt, counted ∙ t.foreign)
  where
    searched : Over search ≡ Over (Stopped (Err TurnsOver)) → search ≡ Stopped (Err TurnsOver)
    searched e = cc e
over_right limits from pieces (Err (LineFailed fault)) last said search changed are reads pass is counted machine now lost ready reaches within (between, lost_first, lost_later, honest, (same, none), all) =
    let t = (believed limits from pieces (Err (LineFailed fault)) last said reads pass).0 machine between lost_first (may_look (last_words from pieces.bytes pieces.count) limits.patience machine ready) honest in
    (ap (λ (m : Machine). m.memory) same ∙ t.same, subst (λ s. IsTrueEnd s machine.memory limits.patience lost) (sym (searched is)) tt, counted ∙ t.foreign)
  where
    searched : Over search ≡ Over (Stopped (Err (LineFailed fault))) → search ≡ Stopped (Err (LineFailed fault))
    searched e = cc e

run_over : (pieces : Pieces) (passes : List Pieces) (limits : Limits) (from : ℕ) (search : Search) (changed : ℕ) (line line' : LineTold) → ArePieces from pieces → Stepped (pass_over limits from pieces) (Over search) changed line line' →
    Runs (pieces ∷ passes) limits from (from + pieces.bytes * pieces.count) search changed line line'
run_over pieces passes limits from search changed line line' are s = record {
  parts = s.said ∷ [];
  searches = LastPass pieces passes (ahead limits from) search changed s.said s.came;
  on_line = subst (Gains line.said line'.said) (sym (append-nil s.said)) s.on_line;
  finds = over_right limits from pieces s.came.stop s.came.last s.said search changed are s.reads s.came.is_pass s.came.end_is s.came.changed_is;
  counted = s.counted;
  named = s.named;
}

-- ---- a pass, and those that follow it

more_right : (limits : Limits) (from limit next : ℕ) (pieces : Pieces) (stop : LookStop) (last : Reader) (said : List Item) (search : Search) (changed more : ℕ) (parts : List (List Item)) → ArePieces from pieces → IsReader (first limits.patience from pieces) →
    IsPass (pass_over limits from pieces) stop last said → Lacking next ≡ passed stop (found from pieces last) → changed ≡ last.foreign → next + pieces.bytes ≤ limit + 2 → FindsFrom next limit limits.patience search more parts →
    FindsFrom from (from + pieces.bytes * pieces.count) limits.patience search (changed + more) (said ∷ parts)
more_right limits from limit next pieces (Ok (NoWord a)) last said search changed more parts are reads pass is counted fits finds machine now lost ready reaches within (between, lost_first, lost_later, honest, rest, all) =
    let t = true_at limits from pieces (NoWord a) last said machine between lost_first reads pass ready honest in
    let o = is_over limits from pieces (Ok (NoWord a)) last said reads pass in
    let far : found from pieces last ≤ top_of machine.memory = reached machine.memory from pieces last are o reaches (subst (λ m. HoldsRead m last) t.same t.read) in
    let past : top_of between.memory ≤ a = paid_at last.phase (NoWord a) between.memory last.patience (lost_first + 0) pass.end t.cause in
    let tops : top_of between.memory ≡ top_of machine.memory = ap top_of t.same in
    let later = finds between now lost_later (ready_at limits from pieces (NoWord a) last said machine between lost_first reads pass ready honest)
    (omega (arith, far, tops, here is)) (omega (arith, past, lacking from a pieces last o pass.end, here is, fits, are.some)) rest in
    (later.0 ∙ t.same, right_more search between.memory machine.memory limits.patience lost_later lost t.same (omega (arith, all)) later.1, omega (arith, counted, t.foreign, later.2))
  where
    here : {at : ℕ} → Lacking next ≡ Lacking at → next ≡ at
    here e = cc e

    right_more : (search : Search) (memory before : List ℕ) (patience lost more : ℕ) → memory ≡ before → lost ≤ more → IsTrueEnd search memory patience lost → IsTrueEnd search before patience more
    right_more (Ends top) memory before patience lost more same le right = sym (ap top_of same) ∙ right
    right_more (Stopped (Ok GaveUp)) memory before patience lost more same le right = omega (arith, right, le)
    right_more (Stopped (Ok Complete)) memory before patience lost more same le right = tt
    right_more (Stopped (Ok (NoWord a))) memory before patience lost more same le right = tt
    right_more (Stopped (Err cut)) memory before patience lost more same le right = tt
more_right limits from limit next pieces (Ok Complete) last said search changed more parts are reads pass is counted fits finds machine now lost ready reaches within honest = absurd (cc is)
more_right limits from limit next pieces (Ok GaveUp) last said search changed more parts are reads pass is counted fits finds machine now lost ready reaches within honest = absurd (cc is)
more_right limits from limit next pieces (Err cut) last said search changed more parts are reads pass is counted fits finds machine now lost ready reaches within honest = absurd (cc is)

run_more : (pieces : Pieces) (passes : List Pieces) (limits : Limits) (from next limit : ℕ) (search : Search) (changed more : ℕ) (line line' line'' : LineTold) → ArePieces from pieces → Stepped (pass_over limits from pieces) (Lacking next) changed line line' →
    next + pieces.bytes ≤ limit + 2 → Runs passes limits next limit search more line' line'' → Runs (pieces ∷ passes) limits from (from + pieces.bytes * pieces.count) search (changed + more) line line''
run_more pieces passes limits from next limit search changed more line line' line'' are s fits run = record {
  parts = s.said ∷ run.parts;
  searches = OnePassMore pieces passes (ahead limits from) search next changed more s.said run.parts s.came run.searches;
  on_line = gains_join line.said line'.said line''.said s.said (in_a_row run.parts) s.on_line run.on_line;
  finds = more_right limits from limit next pieces s.came.stop s.came.last s.said search changed more run.parts are s.reads s.came.is_pass s.came.end_is s.came.changed_is fits run.finds;
  counted = subst (λ count. CountsFault (line_fault (stop_of search)) count line''.failures) s.counted run.counted;
  named = run.named;
}

-- ---- the three passes

abbrev pub large : Pieces
large = record { bytes = 0o4000; count = 28 }

abbrev pub small : Pieces
small = record { bytes = 0o100; count = 32 }

abbrev pub words : Pieces
words = record { bytes = 2; count = 32 }

large_are : ArePieces 0 large
large_are = record { even = refl; whole = refl; some = omega arith; below = omega arith }

small_are : (from : ℕ) → LiesWithin 0 large (Lacking from) → ArePieces from small
small_are from lies = record { even = lies.0; whole = refl; some = omega arith; below = omega (arith, lies.1) }

words_are : (before from : ℕ) → ArePieces before small → LiesWithin before small (Lacking from) → ArePieces from words
words_are before from are lies = record { even = lies.0; whole = refl; some = omega arith; below = omega (arith, lies.1, are.below) }

finds_end : (limits : Limits) (search : Search) (changed : ℕ) (line line' : LineTold) → Runs three_passes limits 0 0o160000 search changed line line' → FindsEnd limits search changed line line'
finds_end limits search changed line line' run = record {
  parts = run.parts;
  passes = run.searches;
  on_line = run.on_line;
  believed = λ machine now lost ready honest. run.finds machine now lost ready (omega arith) (omega (arith, ready.console.size)) honest;
  counted = run.counted;
  named = run.named;
}

-- the first pass ended the search
pub ends_first : (limits : Limits) (search : Search) (n : ℕ) (line line' : LineTold) → Stepped (pass_over limits 0 large) (Over search) n line line' → FindsEnd limits search n line line'
ends_first limits search n line line' one = finds_end limits search n line line' (run_over large (small ∷ words ∷ []) limits 0 search n line line' large_are one)

-- passes that follow the first
ends_later : (limits : Limits) (from : ℕ) (search : Search) (n more : ℕ) (a b c : LineTold) → Stepped (pass_over limits 0 large) (Lacking from) n a b → Runs (small ∷ words ∷ []) limits from (from + 64 * 32) search more b c →
    FindsEnd limits search (n + more) a c
ends_later limits from search n more a b c one run =
    finds_end limits search (n + more) a c (run_more large (small ∷ words ∷ []) limits 0 from (from + 64 * 32) search n more a b c large_are one (omega arith) run)

-- the second did
pub ends_second : (limits : Limits) (from : ℕ) (search : Search) (n m : ℕ) (a b c : LineTold) → Stepped (pass_over limits 0 large) (Lacking from) n a b → Stepped (pass_over limits from small) (Over search) m b c →
    FindsEnd limits search (n + m) a c
ends_second limits from search n m a b c one two = ends_later limits from search n m a b c one (run_over small (words ∷ []) limits from search m b c (small_are from one.within) two)

-- the third begins
words_run : (limits : Limits) (from next : ℕ) (search : Search) (n m more : ℕ) (a b c d : LineTold) → Stepped (pass_over limits 0 large) (Lacking from) n a b → Stepped (pass_over limits from small) (Lacking next) m b c →
    Runs (words ∷ []) limits next (next + 2 * 32) search more c d → FindsEnd limits search (n + (m + more)) a d
words_run limits from next search n m more a b c d one two run =
    ends_later limits from search n (m + more) a b d one (run_more small (words ∷ []) limits from next (next + 2 * 32) search m more b c d (small_are from one.within) two (omega arith) run)

-- and ended the search
pub ends_third : (limits : Limits) (from next : ℕ) (search : Search) (n m k : ℕ) (a b c d : LineTold) → Stepped (pass_over limits 0 large) (Lacking from) n a b → Stepped (pass_over limits from small) (Lacking next) m b c →
    Stepped (pass_over limits next words) (Over search) k c d → FindsEnd limits search (n + (m + k)) a d
ends_third limits from next search n m k a b c d one two three =
    words_run limits from next search n m k a b c d one two (run_over words [] limits next search k c d (words_are from next (small_are from one.within) two.within) three)

-- or came to memory's end
pub ends_there : (limits : Limits) (from next top : ℕ) (n m k : ℕ) (a b c d : LineTold) → Stepped (pass_over limits 0 large) (Lacking from) n a b → Stepped (pass_over limits from small) (Lacking next) m b c →
    Stepped (pass_over limits next words) (Lacking top) k c d → FindsEnd limits (Ends top) (n + (m + k)) a d
ends_there limits from next top n m k a b c d one two three =
    subst (λ count. FindsEnd limits (Ends top) (n + (m + count)) a d) (none_more k)
    (words_run limits from next (Ends top) n m (k + 0) a b c d one two
    (run_more words [] limits next top top (Ends top) k 0 c d d (words_are from next (small_are from one.within) two.within) three (omega arith) (run_none limits top d)))
  where
    none_more : (count : ℕ) → count + 0 ≡ count
    none_more count = omega arith

-- Looks in front of a life, at a station's line: what they leave is a line at which the life may begin.
use Rattle.std.proofs.Common.{◌≡◌, ℕ, zero, suc, ◌+◌, ◌≤◌, ◌⊎◌, Bool, true, false, List, [], ◌∷◌, ◌++◌, length, inl, inr, refl, arith, ap, sym, subst, ◌∙◌, append_assoc}
use Rattle.std.specs.Prelude.{Ok}
use Rattle.std.specs.List.{remove}
use Rattle.std.proofs.lemmas.List.Elements.{Contains-append_cases}
use Rattle.tape_image.specs.Plan.{PlanValue, IsPlan}
use Rattle.host_core.specs.declared.heard.Heard.{Heard}
use Rattle.host_core.specs.declared.heard.Heard.TheVariants.{Got, Quiet}
use Rattle.host_core.specs.declared.progress.Progress.{Progress}
use Rattle.line_world.proofs.Starts.{ends_join}
use Rattle.host_devices.specs.declared.item.Item.{Item}
use Rattle.host_devices.specs.declared.item.Item.TheVariants.{Heard as Came, Sent}
use Rattle.host_devices.specs.Dialogue.{keys_of}
use Rattle.load_record.specs.Reading.{Says}
use Rattle.load_lives.proofs.Records.{says_once, says_sound}
use Rattle.looking_law.specs.RecordLook.{HasLooked}
use Rattle.reading_core.specs.Reader.{once}
use Rattle.looking_law.proofs.Never.{looked_never, never_ends, none_in}
use Rattle.line_world.specs.Wire.{sent}
use Rattle.honest_line.specs.Moves.{Gives}
use Rattle.exchange_law.specs.Line.{Link, Moves, MovesOn, MovesTimes, Passes}
use Rattle.exchange_law.specs.Station.{Program}
use Rattle.honest_line.proofs.Passings.{later}
use Rattle.exchange_law.proofs.Links.{passes_split}
use Rattle.exchange_law.specs.Recovery.{IsLater, IsPaid}
use Rattle.exchange_law.specs.Start.{program as stub_program}
use Rattle.load_lives.specs.Between.{Between}
use Rattle.load_lives.specs.FastLives.{FastLife, IsFastLife, LinkAndRecord, PassesAt, last_core}
use Rattle.load_lives.specs.FastLooksFirst.{AreFastLookingLives, FastLivesMayLookFirst, FastLookingLife, IsFastLookingLife, IsLatestPaid, typed}
use Rattle.load_lives.proofs.Calm.{Rested, kept_on, stands_on}
use Rattle.load_lives.proofs.FastChains.{Stood, Went, opens, trusted, went}
use Rattle.load_lives.proofs.Growing.{between_reopened}
use Rattle.load_lives.proofs.Looking.{IsLeft, looks_leave}
use Rattle.exchange_law.proofs.Passing.{losses_aside}

-- ---- losses that were there before are counted apart

abbrev pub Fewer : ℕ → Link → (Link → Type 0) → Type 0
Fewer k y P = (z : Link) × (y ≡ later k z) × P z

one_lost : (k n : ℕ) → k + n + 1 ≡ k + (n + 1)
one_lost k n = omega arith

move_fewer : (program : Program) (k : ℕ) (x y : Link) → Moves program (later k x) y → Fewer k y (Moves program x)
move_fewer program k x y (inl t) = (
  record { machine = t.station'; down = t.rest; up = x.up ++ t.answer; lost = x.lost },
  t.now,
  inl (record { c = t.c; rest = t.rest; first = t.first; station' = t.station'; answer = t.answer; meets = t.meets; now = refl }),
)
move_fewer program k x y (inr (inl (i, below, now))) =
    (record x { down = remove x.down i; lost = x.lost + 1 }, now ∙ ap (λ n. record x { down = remove x.down i; lost = n }) (one_lost k x.lost), inr (inl (i, below, refl)))
move_fewer program k x y (inr (inr (i, below, now))) =
    (record x { up = remove x.up i; lost = x.lost + 1 }, now ∙ ap (λ n. record x { up = remove x.up i; lost = n }) (one_lost k x.lost), inr (inr (i, below, refl)))

times_fewer : (program : Program) (k n : ℕ) (x y : Link) → MovesTimes program n (later k x) y → Fewer k y (MovesOn program x)
times_fewer program k zero x y same = (x, same, (zero, refl))
times_fewer program k (suc n) x y (w, move, rest) =
    let one = move_fewer program k x w move in
    let more = times_fewer program k n one.0 y (subst (λ v. MovesTimes program n v y) one.1 rest) in
    (more.0, more.1, (suc more.2.0, (one.0, one.2, more.2.1)))

gives_fewer : (k : ℕ) (what : Heard) (x y : Link) → Gives (later k x) what y → Fewer k y (Gives x what)
gives_fewer k (Got c) x y (rest, is, now) = (record x { up = rest }, now, (rest, is, refl))
gives_fewer k Quiet x y (none, empty, now) = (x, now, (none, empty, refl))

pub passes_fewer : (program : Program) (k : ℕ) (items : List Item) (x y : Link) → Passes program (later k x) items y → Fewer k y (Passes program x items)
passes_fewer program k [] x y moves = times_fewer program k moves.0 x y moves.1
passes_fewer program k (Sent key ∷ items) x y passes = passes_fewer program k items (sent x (key ∷ [])) y passes
passes_fewer program k (Came what ∷ items) x y (w, v, before, gives, passes) =
    let one = times_fewer program k before.0 x w before.1 in
    let next = gives_fewer k what one.0 v (subst (λ u. Gives u what v) one.1 gives) in
    let more = passes_fewer program k items next.0 y (subst (λ u. Passes program u items y) next.1 passes) in
    (more.0, more.1, (one.0, next.0, one.2, next.2, more.2))

-- ---- where looks end

not_both : (b : Bool) → b ≡ true → b ≡ false → ⊥
not_both b e f = cc

looked : (program : Program) (tape : PlanValue) (before keys : List ℕ) (between : LinkAndRecord) (recorded : Progress) (looks : List Item) (z : Link) → IsPlan tape → Stood program tape before keys between → Says tape between.text (Ok recorded) → HasLooked tape recorded looks →
    PassesAt program between.link looks z → Stood program tape before (keys ++ keys_of looks) (record { link = z; text = between.text })
looked program tape before keys between recorded looks z is s says h line =
    let same : s.progress ≡ recorded = says_once tape between.text s.progress recorded s.says says in
    let unset : s.progress.going ≡ false = ap (λ (p : Progress). p.going) same ∙ h.unmarked in
    let v : ℕ = s.progress.verified in
    let within : v ≤ length tape.words = (says_sound tape between.text s.progress s.says).within in
    let x : Link = line.found in
    let b : Between program tape v before x = between_reopened program tape v before between.link x line.reopens (s.next unset) in
    let l : IsLeft program (IsLater tape v) x.machine.odt.memory z = looks_leave program (IsLater tape v) h.addresses h.patience h.heard looks x z h.asked h.patient h.told b.line line.passes in
    let there : Between program tape v before z = record {
      stand = stands_on tape v x.machine.odt.memory z.machine.odt.memory is within l.untouched b.stand;
      kept = kept_on tape v before x.machine.odt.memory z.machine.odt.memory l.untouched b.kept;
      line = l.line;
    } in record {
      progress = s.progress;
      says = s.says;
      stand = there.stand;
      kept = there.kept;
      last = ends_join keys (keys_of looks) s.last (never_ends (keys_of looks) (looked_never once tape recorded looks h)) (λ g. absurd (not_both s.progress.going (s.marked g) unset));
      marked = λ g. elim (Contains-append_cases keys (keys_of looks) 71 g) [ inl early ↦ s.marked early | inr now ↦ absurd (none_in (keys_of looks) (looked_never once tape recorded looks h) now) ];
      all = λ set. absurd (not_both s.progress.going set unset);
      rested = λ set. absurd (not_both s.progress.going set unset);
      next = λ _. there;
    }

-- ---- a life behind them

record WentOn (program : Program) (tape : PlanValue) (before keys : List ℕ) (l : FastLookingLife) (new : LinkAndRecord) : Type 0 where
  pub stood : Stood program tape before (keys ++ (keys_of l.looks ++ keys_of l.life.rest)) new
  pub lost : ℕ
  pub fewer : lost ≤ new.link.lost
  pub paid : IsPaid (last_core tape l.life) new.link.machine.odt.memory (length l.life.unsent + lost + 1)

rested_later : (program : Program) (tape : PlanValue) (keys : List ℕ) (k : ℕ) (y : Link) → Rested program tape keys y → Rested program tape keys (later k y)
rested_later program tape keys k y (inl u) = inl (losses_aside program (IsLater tape (length tape.words)) (later k y) y.lost u)
rested_later program tape keys k y (inr (has, idle)) = inr (
  has,
  elim idle [ inl none ↦ inl none | inr last ↦ inr (record { key = last.key; down = last.down; none = last.none; untouched = last.untouched }) ],
)

later_stood : (program : Program) (tape : PlanValue) (before keys : List ℕ) (k : ℕ) (y : Link) (text : List ℕ) → Stood program tape before keys (record { link = y; text = text }) → Stood program tape before keys (record { link = later k y; text = text })
later_stood program tape before keys k y text s = record {
  progress = s.progress;
  says = s.says;
  stand = s.stand;
  kept = s.kept;
  last = s.last;
  marked = s.marked;
  all = s.all;
  rested = λ set. rested_later program tape keys k y (s.rested set);
  next = λ unset. let b = s.next unset in record { stand = b.stand; kept = b.kept; line = losses_aside program (IsLater tape s.progress.verified) (later k y) y.lost b.line };
}

-- a life by its line
abbrev On : Program → PlanValue → LinkAndRecord → FastLife → LinkAndRecord → Type 0
On program tape between life new =
    (x y : Link) → PassesAt program x (life.front ++ life.rest) y → IsFastLife program tape (record { link = x; text = between.text }) life (record { link = y; text = new.text })

nothing_lost : (k : ℕ) → k ≡ k + 0
nothing_lost k = omega arith

went_behind : (program : Program) (tape : PlanValue) (before keys : List ℕ) (between : LinkAndRecord) (recorded : Progress) (looks : List Item) (life : FastLife) (new : LinkAndRecord) → IsPlan tape → Stood program tape before keys between → Says tape between.text (Ok recorded) →
    HasLooked tape recorded looks → PassesAt program between.link (looks ++ (life.front ++ life.rest)) new.link → On program tape between life new → WentOn program tape before keys (record { looks = looks; life = life }) new
went_behind program tape before keys between recorded looks life new is s says h line on =
    let items : List Item = life.front ++ life.rest in
    let split = passes_split program looks items line.found new.link line.passes in
    let z : Link = split.0 in
    let b : Stood program tape before (keys ++ keys_of looks) (record { link = z; text = between.text }) =
    looked program tape before keys between recorded looks z is s says h (record { found = line.found; reopens = line.reopens; passes = split.1 }) in
    let f = passes_fewer program z.lost items (record z { lost = 0 }) new.link (subst (λ n. Passes program (record z { lost = n }) items new.link) (nothing_lost z.lost) split.2) in
    let y : Link = f.0 in
    let all : List ℕ = (keys ++ keys_of looks) ++ keys_of life.rest in
    let w : Went program tape before (keys ++ keys_of looks) life (record { link = y; text = new.text }) =
    went program tape before (keys ++ keys_of looks) (record { link = z; text = between.text }) life (record { link = y; text = new.text }) is b (on z y (record { found = record z { lost = 0 }; reopens = inl refl; passes = f.2 })) in
    record {
      stood = subst (λ list. Stood program tape before list new) (append_assoc keys (keys_of looks) (keys_of life.rest))
          (subst (λ x. Stood program tape before all (record { link = x; text = new.text })) (sym f.1) (later_stood program tape before all z.lost y new.text w.stood));
      lost = y.lost;
      fewer = omega (arith, ap (λ (x : Link). x.lost) f.1);
      paid = subst (λ (x : Link). IsPaid (last_core tape life) x.machine.odt.memory (length life.unsent + y.lost + 1)) (sym f.1) w.paid;
    }

went_plain : (program : Program) (tape : PlanValue) (before keys : List ℕ) (between : LinkAndRecord) (looks : List Item) (life : FastLife) (new : LinkAndRecord) → IsPlan tape → Stood program tape before keys between → looks ≡ [] →
    PassesAt program between.link (looks ++ (life.front ++ life.rest)) new.link → On program tape between life new → WentOn program tape before keys (record { looks = looks; life = life }) new
went_plain program tape before keys between looks life new is s none line on =
    let w : Went program tape before keys life new =
    went program tape before keys between life new is s (on between.link new.link (subst (λ items. PassesAt program between.link (items ++ (life.front ++ life.rest)) new.link) none line)) in
    record {
      stood = subst (λ items. Stood program tape before (keys ++ (keys_of items ++ keys_of life.rest)) new) (sym none) w.stood;
      lost = new.link.lost;
      fewer = omega arith;
      paid = w.paid;
    }

one_more : (program : Program) (tape : PlanValue) (before keys : List ℕ) (between : LinkAndRecord) (l : FastLookingLife) (new : LinkAndRecord) → IsPlan tape → Stood program tape before keys between → IsFastLookingLife program tape between l new →
    WentOn program tape before keys l new
one_more program tape before keys between l new is s i = by i.looked
  where
    on : On program tape between l.life new
    on x y line = record { patient = i.patient; goes_on = i.goes_on; alone = i.alone; stubs = i.stubs; plain = i.plain; stops = i.stops; line = line; left = i.left; renews = i.renews }

    by : (l.looks ≡ []) ⊎ HasLooked tape i.goes_on.recorded l.looks → WentOn program tape before keys l new
    by (inl none) = went_plain program tape before keys between l.looks l.life new is s none i.line on
    by (inr h) = went_behind program tape before keys between i.goes_on.recorded l.looks l.life new is s i.goes_on.says h i.line on

-- ---- all of them

stood : (program : Program) (tape : PlanValue) (before : List ℕ) (lives : List FastLookingLife) (old new : LinkAndRecord) → IsPlan tape → Stood program tape before [] old → AreFastLookingLives program tape old lives new → Stood program tape before (typed lives) new
stood program tape before [] old new is s same = subst (Stood program tape before []) (sym same) s
stood program tape before (l ∷ earlier) old new is s lived = (one_more program tape before (typed earlier) lived.0 l new is (stood program tape before earlier old lived.0 is s lived.1) lived.2).stood

latest : (program : Program) (tape : PlanValue) (before : List ℕ) (lives : List FastLookingLife) (old new : LinkAndRecord) → IsPlan tape → Stood program tape before [] old → AreFastLookingLives program tape old lives new → IsLatestPaid tape lives new.link
latest program tape before [] old new is s lived = tt
latest program tape before (l ∷ earlier) old new is s lived =
    let w = one_more program tape before (typed earlier) lived.0 l new is (stood program tape before earlier old lived.0 is s lived.1) lived.2 in
    (w.lost, w.fewer, w.paid)

pub come_first : FastLivesMayLookFirst
come_first tape old new lives is may lived =
    let first = opens stub_program tape old may in (
      trusted stub_program tape old.link.machine.odt.memory (typed lives) new is (stood stub_program tape old.link.machine.odt.memory lives old new is first lived),
      latest stub_program tape old.link.machine.odt.memory lives old new is first lived,
    )

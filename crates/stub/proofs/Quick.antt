-- How many instructions pass.
use Rattle.std.proofs.Common.{◌≡◌, ℕ, zero, suc, ◌+◌, ◌<◌, ◌≤◌, ◌⊎◌, Bool, true, false, if◌then◌else◌, List, [], ◌∷◌, ◌++◌, length, inl, inr, arith, ap, sym, ◌∙◌, lit≤, append-nil}
use Rattle.tape_image.specs.Memory.{top_of}
use Rattle.processor.specs.Console.{Console}
use Rattle.processor.specs.Machine.{Machine, State, Runs, Halted}
use Rattle.processor.specs.Execution.{step}
use Rattle.exchange_core.specs.declared.stretch.Stretch.{Stretch}
use Rattle.stub.specs.Filling.{Filling}
use Rattle.stub.specs.Place.{StretchesFit, stub_end}
use Rattle.stub.specs.Law.{waiting, filled}
use Rattle.processor.specs.Events.{ran}
use Rattle.stub.specs.Pace.{Acts, ActsWithin, IsAtRest, RestsWithin, most, StubsKeepUp, StubsRest}
use Rattle.stub.proofs.Points.{Point, AskQ, AskedQ, ListenQ, ListenedQ, IdleQ, IdleTestedQ, EmptyQ, EmptyTestedQ, Listened, OutWaited, Listens, Advances, Facts, dist, Going, Lasts, Turns, Nearer}
use Rattle.stub.proofs.Moves.{instruct}
use Rattle.stub.proofs.Events.{lasts_ran}
use Rattle.stub.proofs.Whole.{roomy, opening}

pub some : (p : Point) (n : Bool) → 1 ≤ dist p n
some ListenedQ true = lit≤ tt
some ListenedQ false = lit≤ tt
some Listened true = lit≤ tt
some Listened false = lit≤ tt
some OutWaited true = lit≤ tt
some OutWaited false = lit≤ tt
some _ n = lit≤ tt

pub few : (p : Point) (n : Bool) → dist p n ≤ 33
few ListenedQ true = lit≤ tt
few ListenedQ false = lit≤ tt
few Listened true = lit≤ tt
few Listened false = lit≤ tt
few OutWaited true = lit≤ tt
few OutWaited false = lit≤ tt
few _ n = lit≤ tt

module _ (place : ℕ) (stretches : List Stretch) (before waited : List ℕ) (room : place + 126 < 57344) (small : length before ≤ 28672) (fit : StretchesFit place (stub_end place stretches) (top_of before) stretches) where
  going : (m : Machine) → Lasts place stretches before waited m → m.state ≡ Runs → Going place stretches before waited m
  going m (inl k) running = k
  going m (inr k) running = absurd (apart m.state k.halted running)
    where
      apart : (s : State) → s ≡ Halted → s ≡ Runs → ⊥
      apart s is isnt = cc

  acts_within : (n : ℕ) (m : Machine) (k : Going place stretches before waited m) → m.console.done ≡ true → m.console.ready ≡ true → dist k.point m.codes.n ≤ n → ActsWithin n m
  acts_within zero m k done ready less = none (dist k.point m.codes.n) (some k.point m.codes.n) less
    where
      none : (d : ℕ) → 1 ≤ d → d ≤ 0 → ⊥
      none d one less = omega arith
  acts_within (suc n) m k done ready less =
      let turns : Turns place stretches before waited m k.base k.point (step m) = instruct place stretches before waited room small fit m k.base k.running k.point k.pc k.masked k.facts in
      goes_on turns.lasts (turns.ahead (λ _. done) ready) (λ g same nearer.
      acts_within n (step m) g (ap (λ (c : Console). c.done) same ∙ done) (ap (λ (c : Console). c.ready) same ∙ ready) (fewer (dist g.point (step m).codes.n) (dist k.point m.codes.n) n nearer less))
    where
      fewer : (a b n : ℕ) → a < b → b ≤ suc n → a ≤ n
      fewer a b n nearer less = omega arith

      goes_on : (lasts : Lasts place stretches before waited (step m)) → Advances m (step m) ⊎ (((step m).console ≡ m.console) × Nearer place stretches before waited lasts (dist k.point m.codes.n)) →
          ((g : Going place stretches before waited (step m)) → (step m).console ≡ m.console → dist g.point (step m).codes.n < dist k.point m.codes.n → ActsWithin n (step m)) → Acts (step m) ⊎ ActsWithin n (step m)
      goes_on lasts (inl (inl halted)) more = inl (inl halted)
      goes_on lasts (inl (inr (inl fetched))) more = inl (inr (inl fetched.1))
      goes_on lasts (inl (inr (inr given))) more = inl (inr (inr given))
      goes_on (inl g) (inr (same, nearer)) more = inr (more g same nearer)
      goes_on (inr g) (inr (same, nearer)) more = absurd nearer

pub keep_up : StubsKeepUp
keep_up place stretches m events is running done ready =
    let room = roomy place stretches m is in
    let last : Lasts place stretches m.memory (waiting m.console) (ran m events) = lasts_ran place stretches m.memory (waiting m.console) room is.size is.stands.fit m events (opening place stretches m is) in
    let k : Going place stretches m.memory (waiting m.console) (ran m events) = going place stretches m.memory (waiting m.console) room is.size is.stands.fit (ran m events) last running in
    acts_within place stretches m.memory (waiting m.console) room is.size is.stands.fit most (ran m events) k done ready (few k.point (ran m events).codes.n)

-- ---- rest

pub listens_or : (p : Point) → Listens p ⊎ (Listens p → ⊥)
listens_or AskQ = inl tt
listens_or AskedQ = inl tt
listens_or ListenQ = inl tt
listens_or ListenedQ = inl tt
listens_or IdleQ = inl tt
listens_or IdleTestedQ = inl tt
listens_or EmptyQ = inl tt
listens_or EmptyTestedQ = inl tt
listens_or _ = inr (λ l. l)

-- where it waits for a character nothing is late, and nothing is left to send
pub quiet_of : (place : ℕ) (stretches : List Stretch) (top : ℕ) (p : Point) (f : Filling) (late more : List ℕ) (m : Machine) → Listens p → Facts place stretches top p f late more m → (late ≡ []) × (more ≡ [])
quiet_of place stretches top AskQ f late more m l h = h.quiet
quiet_of place stretches top AskedQ f late more m l h = h.0.quiet
quiet_of place stretches top ListenQ f late more m l h = h.quiet
quiet_of place stretches top ListenedQ f late more m l h = h.0.quiet
quiet_of place stretches top IdleQ f late more m l h = h.quiet
quiet_of place stretches top IdleTestedQ f late more m l h = h.0.quiet
quiet_of place stretches top EmptyQ f late more m l h = h.quiet
quiet_of place stretches top EmptyTestedQ f late more m l h = h.0.quiet
quiet_of place stretches top _ f late more m l h = absurd l

module _ (place : ℕ) (stretches : List Stretch) (first : Machine) (room : place + 126 < 57344) (small : length first.memory ≤ 28672) (fit : StretchesFit place (stub_end place stretches) (top_of first.memory) stretches) where
  at_rest : (m : Machine) (k : Going place stretches first.memory (waiting first.console) m) → Listens k.point → m.console.ready ≡ true → IsAtRest stretches first m
  at_rest m k l ready =
      let base = k.base in
      let quiet = quiet_of place stretches (top_of first.memory) k.point base.stub base.late base.more m l k.facts in
      let all : m.console.fetched ≡ base.took = base.fetched ∙ (ap (λ late. base.took ++ late) quiet.0 ∙ append-nil base.took) in
      record {
        memory = base.memory ∙ (ap (λ (f : Filling). f.memory) base.stub_is ∙ ap (λ took. (filled first.memory stretches took).memory) (sym all));
        sent = ap (λ took. waiting first.console ++ (filled first.memory stretches took).answers) all
            ∙ (ap (λ (f : Filling). waiting first.console ++ f.answers) (sym base.stub_is)
            ∙ (base.sent ∙ none m.console.gone m.console.ready m.console.leaving base.more ready quiet.1));
      }
    where
      none : (gone : List ℕ) (ready : Bool) (c : ℕ) (more : List ℕ) → ready ≡ true → more ≡ [] → (gone ++ (if ready then [] else c ∷ [])) ++ more ≡ gone
      none gone ready c more is empty = ap (λ r. (gone ++ (if r then [] else c ∷ [])) ++ more) is ∙ (ap (λ l. (gone ++ []) ++ l) empty ∙ (append-nil (gone ++ []) ∙ append-nil gone))

  rests_within : (n : ℕ) (m : Machine) (k : Going place stretches first.memory (waiting first.console) m) → m.console.done ≡ false → m.console.ready ≡ true → dist k.point m.codes.n ≤ n → Listens k.point ⊎ (Listens k.point → ⊥) → RestsWithin stretches first n m
  rests_within zero m k done ready less (inl l) = at_rest m k l ready
  rests_within (suc n) m k done ready less (inl l) = inl (at_rest m k l ready)
  rests_within zero m k done ready less (inr isnt) = absurd (none (dist k.point m.codes.n) (some k.point m.codes.n) less)
    where
      none : (d : ℕ) → 1 ≤ d → d ≤ 0 → ⊥
      none d one less = omega arith
  rests_within (suc n) m k done ready less (inr isnt) =
      let turns : Turns place stretches first.memory (waiting first.console) m k.base k.point (step m) = instruct place stretches first.memory (waiting first.console) room small fit m k.base k.running k.point k.pc k.masked k.facts in
      inr (goes_on turns.lasts (turns.ahead (λ l. absurd (isnt l)) ready) (λ g same nearer.
      rests_within n (step m) g (ap (λ (c : Console). c.done) same ∙ done) (ap (λ (c : Console). c.ready) same ∙ ready) (fewer (dist g.point (step m).codes.n) (dist k.point m.codes.n) n nearer less) (listens_or g.point)))
    where
      fewer : (a b n : ℕ) → a < b → b ≤ suc n → a ≤ n
      fewer a b n nearer less = omega arith

      both : (d : Bool) → d ≡ false → d ≡ true → ⊥
      both d no_one some_one = cc

      goes_on : (lasts : Lasts place stretches first.memory (waiting first.console) (step m)) → Advances m (step m) ⊎ (((step m).console ≡ m.console) × Nearer place stretches first.memory (waiting first.console) lasts (dist k.point m.codes.n)) →
          ((g : Going place stretches first.memory (waiting first.console) (step m)) → (step m).console ≡ m.console → dist g.point (step m).codes.n < dist k.point m.codes.n → RestsWithin stretches first n (step m)) →
          (((step m).state ≡ Halted) ⊎ ((step m).console.ready ≡ false)) ⊎ RestsWithin stretches first n (step m)
      goes_on lasts (inl (inl halted)) more = inl (inl halted)
      goes_on lasts (inl (inr (inl fetched))) more = absurd (both m.console.done done fetched.0)
      goes_on lasts (inl (inr (inr given))) more = inl (inr given)
      goes_on (inl g) (inr (same, nearer)) more = inr (more g same nearer)
      goes_on (inr g) (inr (same, nearer)) more = absurd nearer

pub come_to_rest : StubsRest
come_to_rest place stretches m events is running done ready =
    let room = roomy place stretches m is in
    let last : Lasts place stretches m.memory (waiting m.console) (ran m events) = lasts_ran place stretches m.memory (waiting m.console) room is.size is.stands.fit m events (opening place stretches m is) in
    let k : Going place stretches m.memory (waiting m.console) (ran m events) = going place stretches m.memory (waiting m.console) room is.size is.stands.fit (ran m events) last running in
    rests_within place stretches m room is.size is.stands.fit most (ran m events) k done ready (few k.point (ran m events).codes.n) (listens_or k.point)

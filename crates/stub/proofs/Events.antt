-- What happens to the console between two instructions, and whole lists of events.
use Rattle.std.proofs.Common.{◌≡◌, ℕ, ◌+◌, ◌<◌, ◌≤◌, Bool, true, false, if◌then◌else◌, List, [], ◌∷◌, ◌++◌, length, inl, inr, refl, ap, sym, subst, ◌∙◌, append-nil}
use Rattle.tape_image.specs.Memory.{top_of}
use Rattle.processor.specs.Console.{Console}
use Rattle.processor.specs.Machine.{Machine, State}
use Rattle.processor.specs.Execution.{steps}
use Rattle.exchange_core.specs.declared.stretch.Stretch.{Stretch}
use Rattle.stub.specs.Filling.{Filling}
use Rattle.stub.specs.Place.{StretchesFit, stub_end}
use Rattle.stub.specs.Law.{waiting}
use Rattle.processor.specs.Console.{arrived, left}
use Rattle.processor.specs.Events.{Event, Instruct, Arrive, Leave, happens, ran}
use Rattle.stub.proofs.Points.{Point, ListenedQ, Listened, Fetch, OutWaited, Turn, Turned, ReadHigh, Half1, Half2, Half3, Half4, HighBr, ReadLow, Flip, Bits, Up, Send, Facts, Base, Lasts}
use Rattle.stub.proofs.Moves.{instruct}

module _ (place : ℕ) (stretches : List Stretch) (before waited : List ℕ) (room : place + 126 < 57344) (small : length before ≤ 28672) (fit : StretchesFit place (stub_end place stretches) (top_of before) stretches) where
  -- another console, with the same notes of what was fetched, and the same out of the machine's hands
  abbrev at_console : (m : Machine) (c : Console) → Base place stretches before waited m → c.fetched ≡ m.console.fetched → c.gone ++ waiting c ≡ m.console.gone ++ waiting m.console → Base place stretches before waited (record m { console = c })
  at_console m c base fetched out = record {
    took = base.took;
    late = base.late;
    few = base.few;
    more = base.more;
    stub = base.stub;
    stub_is = base.stub_is;
    fetched = fetched ∙ base.fetched;
    sent = base.sent ∙ ap (λ x. x ++ base.more) (sym out);
    memory = base.memory;
    words = base.words;
    size = base.size;
    wide = base.wide;
    fit = base.fit;
    high = base.high;
  }

  pub arrive_facts : (p : Point) (f : Filling) (late more : List ℕ) (m : Machine) (c : ℕ) → Facts place stretches (top_of before) p f late more m → Facts place stretches (top_of before) p f late more (record m { console = arrived m.console c })
  arrive_facts ListenedQ f late more m c h = (h.0, λ _. refl)
  arrive_facts Listened f late more m c h = (h.0, h.1, h.2, h.3, λ _. refl)
  arrive_facts Fetch f late more m c h = (h.0, h.1, h.2, refl)
  arrive_facts _ f late more m c h = h

  pub leave_facts : (p : Point) (f : Filling) (late more : List ℕ) (m : Machine) → Facts place stretches (top_of before) p f late more m →
      Facts place stretches (top_of before) p f late more (record m { console = record m.console { ready = true; gone = m.console.gone ++ m.console.leaving ∷ [] } })
  leave_facts OutWaited f late more m h = (h.0, h.1, λ _. refl)
  leave_facts Turn f late more m h = (h.0, h.1, refl)
  leave_facts Turned f late more m h = (refl, h.1, h.2)
  leave_facts ReadHigh f late more m h = (refl, h.1, h.2, h.3)
  leave_facts Half1 f late more m h = (refl, h.1, h.2, h.3, h.4)
  leave_facts Half2 f late more m h = (refl, h.1, h.2, h.3, h.4)
  leave_facts Half3 f late more m h = (refl, h.1, h.2, h.3, h.4)
  leave_facts Half4 f late more m h = (refl, h.1, h.2, h.3, h.4)
  leave_facts HighBr f late more m h = (refl, h.1, h.2, h.3, h.4)
  leave_facts ReadLow f late more m h = (refl, h.1, h.2, h.3)
  leave_facts Flip f late more m h = (refl, h.1, h.2, h.3)
  leave_facts Bits f late more m h = (refl, h.1, h.2, h.3)
  leave_facts Up f late more m h = (refl, h.1, h.2, h.3)
  leave_facts Send f late more m h = (refl, h.1, h.2, h.3)
  leave_facts _ f late more m h = h

  abbrev pub arrives : (m : Machine) (c : ℕ) → Lasts place stretches before waited m → Lasts place stretches before waited (record m { console = arrived m.console c })
  arrives m c (inl k) = inl record {
    base = at_console m (arrived m.console c) k.base refl refl;
    running = k.running;
    point = k.point;
    pc = k.pc;
    masked = k.masked;
    facts = arrive_facts k.point k.base.stub k.base.late k.base.more m c k.facts;
  }
  arrives m c (inr k) = inr record {
    base = at_console m (arrived m.console c) k.base refl refl;
    halted = k.halted;
    masked = k.masked;
    late = k.late;
    more = k.more;
    left = k.left;
  }

  pub out : (c : Console) → c.ready ≡ false → (c.gone ++ c.leaving ∷ []) ++ [] ≡ c.gone ++ waiting c
  out c busy = append-nil (c.gone ++ c.leaving ∷ []) ∙ ap (λ on. c.gone ++ (if on then [] else c.leaving ∷ [])) (sym busy)

  abbrev pub leaves : (m : Machine) → m.console.ready ≡ false → Lasts place stretches before waited m → Lasts place stretches before waited (record m { console = record m.console { ready = true; gone = m.console.gone ++ m.console.leaving ∷ [] } })
  leaves m busy (inl k) = inl record {
    base = at_console m (record m.console { ready = true; gone = m.console.gone ++ m.console.leaving ∷ [] }) k.base refl (out m.console busy);
    running = k.running;
    point = k.point;
    pc = k.pc;
    masked = k.masked;
    facts = leave_facts k.point k.base.stub k.base.late k.base.more m k.facts;
  }
  leaves m busy (inr k) = inr record {
    base = at_console m (record m.console { ready = true; gone = m.console.gone ++ m.console.leaving ∷ [] }) k.base refl (out m.console busy);
    halted = k.halted;
    masked = k.masked;
    late = k.late;
    more = k.more;
    left = k.left;
  }

  pub lasts : (m : Machine) (event : Event) → Lasts place stretches before waited m → Lasts place stretches before waited (happens m event)
  lasts m Instruct (inl k) = (instruct place stretches before waited room small fit m k.base k.running k.point k.pc k.masked k.facts).lasts
  lasts m Instruct (inr k) = subst (λ (s : State). Lasts place stretches before waited (steps s m)) (sym k.halted) (inr k)
  lasts m (Arrive c) k = arrives m c k
  lasts m Leave k = by_ready m.console.ready refl
    where
      by_ready : (ready : Bool) → m.console.ready ≡ ready → Lasts place stretches before waited (record m { console = left m.console })
      by_ready true is = subst (λ (c : Console). Lasts place stretches before waited (record m { console = c })) (ap (λ on. if on then m.console else record m.console { ready = true; gone = m.console.gone ++ m.console.leaving ∷ [] }) (sym is)) k
      by_ready false is =
          subst (λ (c : Console). Lasts place stretches before waited (record m { console = c })) (ap (λ on. if on then m.console else record m.console { ready = true; gone = m.console.gone ++ m.console.leaving ∷ [] }) (sym is))
          (leaves m is k)

  pub lasts_ran : (m : Machine) (events : List Event) → Lasts place stretches before waited m → Lasts place stretches before waited (ran m events)
  lasts_ran m [] k = k
  lasts_ran m (event ∷ events) k = lasts_ran (happens m event) events (lasts m event k)

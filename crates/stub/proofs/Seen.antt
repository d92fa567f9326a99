-- What a host sees.
use Rattle.std.proofs.Common.{◌≡◌, ℕ, zero, suc, ◌+◌, ◌-◌, ◌%◌, ◌<◌, ◌≤◌, ◌⊎◌, Bool, true, false, if◌then◌else◌, List, [], ◌∷◌, ◌++◌, length, inl, inr, refl, arith, ap, sym, subst, ◌∙◌, append_assoc, append-nil, length-append}
use Rattle.std.specs.List.{remove}
use Rattle.std.proofs.lemmas.List.Edits.{remove-append_left, remove-append_right}
use Rattle.tape_image.specs.Memory.{top_of}
use Rattle.processor.specs.Console.{Console}
use Rattle.processor.specs.Machine.{Machine, State, Runs, Halted}
use Rattle.processor.specs.Execution.{step, steps}
use Rattle.exchange_core.specs.declared.stretch.Stretch.{Stretch}
use Rattle.stub.specs.Filling.{Filling, taken}
use Rattle.processor.specs.Console.{arrived, left}
use Rattle.stub.specs.Place.{StretchesFit, stub_end}
use Rattle.stub.specs.Law.{waiting, seven}
use Rattle.stub.specs.Seen.{Bench, Happening, Moves, Idle, Silent, MovesTimes, Instructs, Arrives, Goes, LosesDown, LosesUp, Sends, Hears, Happens, Ran, Link, Matches, Follows, held, Shows, opened, StubsAreSeenSo}
use Rattle.stub.proofs.Points.{Base, Lasts, base_of, Stays, Took, Turns, Point, dist, Listens, Advances, Nearer, Waits, Facts, AskQ, AskedQ, ListenQ, ListenedQ, IdleQ, IdleTestedQ, EmptyQ, EmptyTestedQ, Going}
use Rattle.stub.proofs.Moves.{instruct}
use Rattle.stub.proofs.Quick.{some, few, listens_or, quiet_of}
use Rattle.stub.specs.Pace.{most}
use Rattle.stub.proofs.Events.{arrives, leaves}
use Rattle.stub.proofs.Whole.{roomy, opening}

module _ (place : ℕ) (stretches : List Stretch) (before waited : List ℕ) (room : place + 126 < 57344) (small : length before ≤ 28672) (fit : StretchesFit place (stub_end place stretches) (top_of before) stretches) where
  -- a link that is what a bench looks like, by what is known of the machine
  pub record Seen (bench : Bench) (link : Link) : Type 0 where
    pub lasts : Lasts place stretches before waited bench.machine
    pub stub : link.machine ≡ (base_of place stretches before waited lasts).stub
    pub down : link.down ≡ ((base_of place stretches before waited lasts).late ++ held bench.machine.console) ++ bench.down
    pub up : link.up ≡ bench.up ++ (waiting bench.machine.console ++ (base_of place stretches before waited lasts).more)
    pub lost : link.lost ≡ bench.lost

  -- one thing that happens, and what the link does
  pub record Matched (x : Link) (what : Happening) (y : Bench) : Type 0 where
    pub link : Link
    pub matches : Matches x what link
    pub seen : Seen y link

  -- an instruction that was a turn
  turned : (x y : Bench) (link : Link) (base : Base place stretches before waited x.machine) (lasts : Lasts place stretches before waited y.machine) → y.down ≡ x.down → y.up ≡ x.up → y.lost ≡ x.lost →
      link.machine ≡ base.stub → link.down ≡ (base.late ++ held x.machine.console) ++ x.down → link.up ≡ x.up ++ (waiting x.machine.console ++ base.more) → link.lost ≡ x.lost →
      Stays place stretches before waited x.machine y.machine base (base_of place stretches before waited lasts) ⊎ Took place stretches before waited x.machine y.machine base (base_of place stretches before waited lasts) → Matched link Instructs y
  turned x y link base lasts same_down same_up same_lost stub down up lost (inl way) = record {
    link = link;
    matches = inl refl;
    seen = record {
      lasts = lasts;
      stub = stub ∙ sym way.stub;
      down = down ∙ (ap (λ l. l ++ x.down) (sym way.came) ∙ ap (λ l. ((base_of place stretches before waited lasts).late ++ held y.machine.console) ++ l) (sym same_down));
      up = up ∙ (ap (λ l. x.up ++ l) (sym way.out) ∙ ap (λ l. l ++ (waiting y.machine.console ++ (base_of place stretches before waited lasts).more)) (sym same_up));
      lost = lost ∙ sym same_lost;
    };
  }
  turned x y link base lasts same_down same_up same_lost stub down up lost (inr way) = record {
    link = record { machine = taken link.machine (seven way.character); down = held x.machine.console ++ x.down; up = link.up ++ way.text; lost = link.lost };
    matches = inr (inl record {
      address = way.address;
      later = way.rest;
      under = ap (λ (f : Filling). f.left) stub ∙ way.under;
      character = way.character;
      rest = held x.machine.console ++ x.down;
      first = down ∙ ap (λ l. (l ++ held x.machine.console) ++ x.down) way.late;
      text = way.text;
      answers = ap (λ (f : Filling). (taken f (seven way.character)).answers) stub ∙ (ap (λ (f : Filling). f.answers) (sym way.stub) ∙ (way.answers ∙ ap (λ (f : Filling). f.answers ++ way.text) (sym stub)));
      now = refl;
    });
    seen = record {
      lasts = lasts;
      stub = ap (λ (f : Filling). taken f (seven way.character)) stub ∙ sym way.stub;
      down = ap (λ l. l ++ x.down) (sym way.came) ∙ ap (λ l. ((base_of place stretches before waited lasts).late ++ held y.machine.console) ++ l) (sym same_down);
      up = ap (λ l. l ++ way.text) up
          ∙ (append_assoc x.up (waiting x.machine.console ++ base.more) way.text ∙ (ap (λ l. x.up ++ l) (sym way.out) ∙ ap (λ l. l ++ (waiting y.machine.console ++ (base_of place stretches before waited lasts).more)) (sym same_up)));
      lost = lost ∙ sym same_lost;
    };
  }

  instructs : (x : Bench) (link : Link) (lasts : Lasts place stretches before waited x.machine) → link.machine ≡ (base_of place stretches before waited lasts).stub → link.down ≡ ((base_of place stretches before waited lasts).late ++ held x.machine.console) ++ x.down →
      link.up ≡ x.up ++ (waiting x.machine.console ++ (base_of place stretches before waited lasts).more) → link.lost ≡ x.lost → Matched link Instructs (record x { machine = step x.machine })
  instructs x link (inl k) stub down up lost =
      let turns : Turns place stretches before waited x.machine k.base k.point (step x.machine) = instruct place stretches before waited room small fit x.machine k.base k.running k.point k.pc k.masked k.facts in
      turned x (record x { machine = step x.machine }) link k.base turns.lasts refl refl refl stub down up lost turns.way
  instructs x link (inr k) stub down up lost =
      subst (λ (s : State). Matched link Instructs (record x { machine = steps s x.machine })) (sym k.halted)
      record { link = link; matches = inl refl; seen = record { lasts = inr k; stub = stub; down = down; up = up; lost = lost } }

  -- ---- a character arrives

  came_is : (c : ℕ) → c < 256 → c % 256 ≡ c
  came_is c low = omega arith

  fresh : (late rest : List ℕ) (c x : ℕ) → x ≡ c → (late ++ []) ++ c ∷ rest ≡ (late ++ x ∷ []) ++ rest
  fresh late rest c x is = ap (λ l. l ++ c ∷ rest) (append-nil late) ∙ (ap (λ y. late ++ y ∷ rest) (sym is) ∙ sym (append_assoc late (x ∷ []) rest))

  over : (late rest : List ℕ) (old c x : ℕ) → x ≡ c → remove ((late ++ old ∷ []) ++ c ∷ rest) (length late) ≡ (late ++ x ∷ []) ++ rest
  over late rest old c x is =
      ap (λ l. remove l (length late)) (append_assoc late (old ∷ []) (c ∷ rest))
      ∙ (remove-append_right late (old ∷ c ∷ rest) (length late) (length late) refl (same (length late))
      ∙ (ap (λ n. late ++ remove (old ∷ c ∷ rest) n) (none (length late))
      ∙ (ap (λ y. late ++ y ∷ rest) (sym is) ∙ sym (append_assoc late (x ∷ []) rest))))
    where
      same : (n : ℕ) → n ≤ n
      same n = omega arith

      none : (n : ℕ) → n - n ≡ 0
      none n = omega arith

  -- the bench after an arrival
  abbrev after_arrival : Bench → ℕ → List ℕ → Bench
  after_arrival x c rest = record { machine = record x.machine { console = arrived x.machine.console c }; down = rest; up = x.up; lost = x.lost + (if x.machine.console.done then 1 else 0) }

  arrival : (x : Bench) (link : Link) (late more : List ℕ) (c : ℕ) (rest : List ℕ) (next : Lasts place stretches before waited (after_arrival x c rest).machine) (done : Bool) →
      (base_of place stretches before waited next).late ≡ late → (base_of place stretches before waited next).more ≡ more → x.machine.console.done ≡ done → x.down ≡ c ∷ rest → c < 256 →
      link.machine ≡ (base_of place stretches before waited next).stub → link.down ≡ (late ++ held x.machine.console) ++ x.down → link.up ≡ x.up ++ (waiting x.machine.console ++ more) → link.lost ≡ x.lost →
      Matched link Arrives (after_arrival x c rest)
  arrival x link late more c rest next false same_late same_more is first low stub down up lost = record {
    link = link;
    matches = inl refl;
    seen = record {
      lasts = next;
      stub = stub;
      down = down ∙ (ap (λ on. (late ++ (if on then x.machine.console.came ∷ [] else [])) ++ x.down) is
          ∙ (ap (λ l. (late ++ []) ++ l) first ∙ (fresh late rest c (c % 256) (came_is c low) ∙ ap (λ l. (l ++ (c % 256) ∷ []) ++ rest) (sym same_late))));
      up = up ∙ ap (λ l. x.up ++ (waiting x.machine.console ++ l)) (sym same_more);
      lost = lost ∙ (add_none x.lost ∙ ap (λ on. x.lost + (if on then 1 else 0)) (sym is));
    };
  }
    where
      add_none : (n : ℕ) → n ≡ n + 0
      add_none n = omega arith
  arrival x link late more c rest next true same_late same_more is first low stub down up lost =
      let is_down : link.down ≡ (late ++ x.machine.console.came ∷ []) ++ c ∷ rest =
      down ∙ (ap (λ on. (late ++ (if on then x.machine.console.came ∷ [] else [])) ++ x.down) is ∙ ap (λ l. (late ++ x.machine.console.came ∷ []) ++ l) first) in
      record {
        link = record link { down = remove link.down (length late); lost = link.lost + 1 };
        matches = inr (inr (inl (length late, inside late x.machine.console.came c rest link.down is_down, refl)));
        seen = record {
          lasts = next;
          stub = stub;
          down = ap (λ l. remove l (length late)) is_down ∙ (over late rest x.machine.console.came c (c % 256) (came_is c low) ∙ ap (λ l. (l ++ (c % 256) ∷ []) ++ rest) (sym same_late));
          up = up ∙ ap (λ l. x.up ++ (waiting x.machine.console ++ l)) (sym same_more);
          lost = ap (λ n. n + 1) lost ∙ ap (λ on. x.lost + (if on then 1 else 0)) (sym is);
        };
      }
    where
      inside : (late : List ℕ) (old c : ℕ) (rest all : List ℕ) → all ≡ (late ++ old ∷ []) ++ c ∷ rest → length late < length all
      inside late old c rest all is = subst (λ l. length late < length l) (sym is) (omega (arith, length-append (late ++ old ∷ []) (c ∷ rest), length-append late (old ∷ [])))

  arrives_so : (x : Bench) (link : Link) (c : ℕ) (rest : List ℕ) → x.down ≡ c ∷ rest → c < 256 → (lasts : Lasts place stretches before waited x.machine) → link.machine ≡ (base_of place stretches before waited lasts).stub → link.down ≡ ((base_of place stretches before waited lasts).late ++ held x.machine.console) ++ x.down →
      link.up ≡ x.up ++ (waiting x.machine.console ++ (base_of place stretches before waited lasts).more) → link.lost ≡ x.lost → Matched link Arrives (after_arrival x c rest)
  arrives_so x link c rest first low (inl k) stub down up lost = arrival x link k.base.late k.base.more c rest (arrives place stretches before waited room small fit x.machine c (inl k)) x.machine.console.done refl refl refl first low stub down up lost
  arrives_so x link c rest first low (inr k) stub down up lost = arrival x link k.base.late k.base.more c rest (arrives place stretches before waited room small fit x.machine c (inr k)) x.machine.console.done refl refl refl first low stub down up lost

  -- ---- a character goes onto the line

  abbrev after_leaving : Bench → Bench
  after_leaving x = record x { machine = record x.machine { console = record x.machine.console { ready = true; gone = x.machine.console.gone ++ x.machine.console.leaving ∷ [] } }; up = x.up ++ x.machine.console.leaving ∷ [] }

  departure : (x : Bench) (link : Link) (more : List ℕ) (next : Lasts place stretches before waited (after_leaving x).machine) → x.machine.console.ready ≡ false →
      (base_of place stretches before waited next).more ≡ more → link.machine ≡ (base_of place stretches before waited next).stub → link.down ≡ ((base_of place stretches before waited next).late ++ held x.machine.console) ++ x.down →
      link.up ≡ x.up ++ (waiting x.machine.console ++ more) → link.lost ≡ x.lost → Matched link Goes (after_leaving x)
  departure x link more next busy same_more stub down up lost = record {
    link = link;
    matches = inl refl;
    seen = record {
      lasts = next;
      stub = stub;
      down = down;
      up = up ∙ (ap (λ on. x.up ++ ((if on then [] else x.machine.console.leaving ∷ []) ++ more)) busy ∙ (sym (append_assoc x.up (x.machine.console.leaving ∷ []) more) ∙ ap (λ l. (x.up ++ x.machine.console.leaving ∷ []) ++ l) (sym same_more)));
      lost = lost;
    };
  }

  goes_so : (x : Bench) (link : Link) → x.machine.console.ready ≡ false → (lasts : Lasts place stretches before waited x.machine) → link.machine ≡ (base_of place stretches before waited lasts).stub → link.down ≡ ((base_of place stretches before waited lasts).late ++ held x.machine.console) ++ x.down →
      link.up ≡ x.up ++ (waiting x.machine.console ++ (base_of place stretches before waited lasts).more) → link.lost ≡ x.lost → Matched link Goes (after_leaving x)
  goes_so x link busy (inl k) stub down up lost = departure x link k.base.more (leaves place stretches before waited room small fit x.machine busy (inl k)) busy refl stub down up lost
  goes_so x link busy (inr k) stub down up lost = departure x link k.base.more (leaves place stretches before waited room small fit x.machine busy (inr k)) busy refl stub down up lost

  -- ---- nothing comes

  -- a link that does what an instruction was for the stub as the host knows it
  record Led (x y : Bench) (link : Link) (base : Base place stretches before waited x.machine) (new : Base place stretches before waited y.machine) : Type 0 where
    pub next : Link
    pub moves : Moves link next
    pub stub : next.machine ≡ new.stub
    pub down : next.down ≡ (new.late ++ held y.machine.console) ++ x.down
    pub up : next.up ≡ x.up ++ (waiting y.machine.console ++ new.more)
    pub lost : next.lost ≡ x.lost

  led : (x y : Bench) (link : Link) (base : Base place stretches before waited x.machine) (new : Base place stretches before waited y.machine) → link.machine ≡ base.stub → link.down ≡ (base.late ++ held x.machine.console) ++ x.down →
      link.up ≡ x.up ++ (waiting x.machine.console ++ base.more) → link.lost ≡ x.lost → Stays place stretches before waited x.machine y.machine base new ⊎ Took place stretches before waited x.machine y.machine base new → Led x y link base new
  led x y link base new stub down up lost (inl way) = record {
    next = link;
    moves = inl refl;
    stub = stub ∙ sym way.stub;
    down = down ∙ ap (λ l. l ++ x.down) (sym way.came);
    up = up ∙ ap (λ l. x.up ++ l) (sym way.out);
    lost = lost;
  }
  led x y link base new stub down up lost (inr way) = record {
    next = record { machine = taken link.machine (seven way.character); down = held x.machine.console ++ x.down; up = link.up ++ way.text; lost = link.lost };
    moves = inr (inl record {
      address = way.address;
      later = way.rest;
      under = ap (λ (f : Filling). f.left) stub ∙ way.under;
      character = way.character;
      rest = held x.machine.console ++ x.down;
      first = down ∙ ap (λ l. (l ++ held x.machine.console) ++ x.down) way.late;
      text = way.text;
      answers = ap (λ (f : Filling). (taken f (seven way.character)).answers) stub ∙ (ap (λ (f : Filling). f.answers) (sym way.stub) ∙ (way.answers ∙ ap (λ (f : Filling). f.answers ++ way.text) (sym stub)));
      now = refl;
    });
    stub = ap (λ (f : Filling). taken f (seven way.character)) stub ∙ sym way.stub;
    down = ap (λ l. l ++ x.down) (sym way.came);
    up = ap (λ l. l ++ way.text) up ∙ (append_assoc x.up (waiting x.machine.console ++ base.more) way.text ∙ ap (λ l. x.up ++ l) (sym way.out));
    lost = lost;
  }

  -- the end of a silence
  record Quieted (x : Bench) (link : Link) (n : ℕ) (now : Machine) : Type 0 where
    pub next : Link
    pub moves : MovesTimes n link next
    pub going : Going place stretches before waited now
    pub listens : Listens going.point
    pub done : now.console.done ≡ false
    pub ready : now.console.ready ≡ true
    pub stub : next.machine ≡ going.base.stub
    pub down : next.down ≡ (going.base.late ++ held now.console) ++ x.down
    pub up : next.up ≡ x.up ++ (waiting now.console ++ going.base.more)
    pub lost : next.lost ≡ x.lost

  both_not : (b : Bool) → b ≡ true → b ≡ false → ⊥
  both_not b is isnt = cc

  halted_not : (s : State) → s ≡ Runs → s ≡ Halted → ⊥
  halted_not s stretches halted = cc

  quieted : (n : ℕ) (x : Bench) (link : Link) (now : Machine) (g : Going place stretches before waited x.machine) → link.machine ≡ g.base.stub → link.down ≡ (g.base.late ++ held x.machine.console) ++ x.down →
      link.up ≡ x.up ++ (waiting x.machine.console ++ g.base.more) → link.lost ≡ x.lost → x.machine.console.done ≡ false → x.machine.console.ready ≡ true → Idle n x.machine now →
      Listens g.point ⊎ (dist g.point x.machine.codes.n ≤ n) → Quieted x link n now
  quieted zero x link now g stub down up lost done ready is at = subst (Quieted x link zero) (sym is) record {
    next = link;
    moves = refl;
    going = g;
    listens = listening at;
    done = done;
    ready = ready;
    stub = stub;
    down = down;
    up = up;
    lost = lost;
  }
    where
      none : (d : ℕ) → 1 ≤ d → d ≤ 0 → ⊥
      none d one less = omega arith

      listening : Listens g.point ⊎ (dist g.point x.machine.codes.n ≤ 0) → Listens g.point
      listening (inl l) = l
      listening (inr less) = absurd (none (dist g.point x.machine.codes.n) (some g.point x.machine.codes.n) less)
  quieted (suc n) x link now g stub down up lost done ready (same, running, more) at =
      let turns : Turns place stretches before waited x.machine g.base g.point (step x.machine) = instruct place stretches before waited room small fit x.machine g.base g.running g.point g.pc g.masked g.facts in
      on_lasts turns.lasts turns.way turns.ahead turns.listening (λ g' next stub down up lost at.
      quieted n (record x { machine = step x.machine }) next now g' stub down up lost (ap (λ (c : Console). c.done) same ∙ done) (ap (λ (c : Console). c.ready) same ∙ ready) more at)
    where
      fewer : (a b n : ℕ) → a < b → b ≤ suc n → a ≤ n
      fewer a b n nearer less = omega arith

      -- it has come nearer, or waits
      nearer_now : (g' : Going place stretches before waited (step x.machine)) → Advances x.machine (step x.machine) ⊎ (((step x.machine).console ≡ x.machine.console) × (dist g'.point (step x.machine).codes.n < dist g.point x.machine.codes.n)) →
          dist g.point x.machine.codes.n ≤ suc n → Listens g'.point ⊎ (dist g'.point (step x.machine).codes.n ≤ n)
      nearer_now g' (inl (inl halted)) less = absurd (halted_not (step x.machine).state running halted)
      nearer_now g' (inl (inr (inl fetched))) less = absurd (both_not x.machine.console.done fetched.0 done)
      nearer_now g' (inl (inr (inr given))) less = absurd (both_not (step x.machine).console.ready (ap (λ (c : Console). c.ready) same ∙ ready) given)
      nearer_now g' (inr (_, nearer)) less = inr (fewer (dist g'.point (step x.machine).codes.n) (dist g.point x.machine.codes.n) n nearer less)

      settled : (g' : Going place stretches before waited (step x.machine)) →
          ((Listens g.point → x.machine.console.done ≡ true) → x.machine.console.ready ≡ true → Advances x.machine (step x.machine) ⊎ (((step x.machine).console ≡ x.machine.console) × (dist g'.point (step x.machine).codes.n < dist g.point x.machine.codes.n))) →
          (Listens g.point → x.machine.console.done ≡ false → Listens g'.point) → Listens g.point ⊎ (Listens g.point → ⊥) → Listens g.point ⊎ (dist g.point x.machine.codes.n ≤ suc n) → Listens g'.point ⊎ (dist g'.point (step x.machine).codes.n ≤ n)
      settled g' ahead listening (inl l) at = inl (listening l done)
      settled g' ahead listening (inr isnt) (inl l) = absurd (isnt l)
      settled g' ahead listening (inr isnt) (inr less) = nearer_now g' (ahead (λ l. absurd (isnt l)) ready) less

      on_lasts : (lasts : Lasts place stretches before waited (step x.machine)) → Stays place stretches before waited x.machine (step x.machine) g.base (base_of place stretches before waited lasts) ⊎ Took place stretches before waited x.machine (step x.machine) g.base (base_of place stretches before waited lasts) →
          ((Listens g.point → x.machine.console.done ≡ true) → x.machine.console.ready ≡ true → Advances x.machine (step x.machine) ⊎ (((step x.machine).console ≡ x.machine.console) × Nearer place stretches before waited lasts (dist g.point x.machine.codes.n))) →
          (Listens g.point → x.machine.console.done ≡ false → Waits place stretches before waited lasts) →
          ((g' : Going place stretches before waited (step x.machine)) (next : Link) → next.machine ≡ g'.base.stub → next.down ≡ (g'.base.late ++ held (step x.machine).console) ++ x.down →
          next.up ≡ x.up ++ (waiting (step x.machine).console ++ g'.base.more) → next.lost ≡ x.lost → Listens g'.point ⊎ (dist g'.point (step x.machine).codes.n ≤ n) → Quieted (record x { machine = step x.machine }) next n now) →
          Quieted x link (suc n) now
      on_lasts (inl g') way ahead listening go =
          let one : Led x (record x { machine = step x.machine }) link g.base g'.base = led x (record x { machine = step x.machine }) link g.base g'.base stub down up lost way in
          let rest = go g' one.next one.stub one.down one.up one.lost (settled g' ahead listening (listens_or g.point) at) in
          record {
            next = rest.next;
            moves = (one.next, one.moves, rest.moves);
            going = rest.going;
            listens = rest.listens;
            done = rest.done;
            ready = rest.ready;
            stub = rest.stub;
            down = rest.down;
            up = rest.up;
            lost = rest.lost;
          }
      on_lasts (inr s) way ahead listening go = absurd (halted_not (step x.machine).state running s.halted)

  -- where it waits for a character it has a byte to fill
  under_of : (p : Point) (f : Filling) (late more : List ℕ) (m : Machine) → Listens p → Facts place stretches (top_of before) p f late more m → (address : ℕ) × (rest : List ℕ) × (f.left ≡ address ∷ rest)
  under_of AskQ f late more m l h = (m.r0, h.side.0.rest, h.side.0.left)
  under_of AskedQ f late more m l h = (m.r0, h.0.side.0.rest, h.0.side.0.left)
  under_of ListenQ f late more m l h = (m.r0, h.side.0.rest, h.side.0.left)
  under_of ListenedQ f late more m l h = (m.r0, h.0.side.0.rest, h.0.side.0.left)
  under_of IdleQ f late more m l h = (m.r0, h.side.0.rest, h.side.0.left)
  under_of IdleTestedQ f late more m l h = (m.r0, h.0.side.0.rest, h.0.side.0.left)
  under_of EmptyQ f late more m l h = (m.r0, h.side.0.rest, h.side.0.left)
  under_of EmptyTestedQ f late more m l h = (m.r0, h.0.side.0.rest, h.0.side.0.left)
  under_of _ f late more m l h = absurd l

  silence : (x : Bench) (link : Link) (now : Machine) (lasts : Lasts place stretches before waited x.machine) → link.machine ≡ (base_of place stretches before waited lasts).stub → link.down ≡ ((base_of place stretches before waited lasts).late ++ held x.machine.console) ++ x.down →
      link.up ≡ x.up ++ (waiting x.machine.console ++ (base_of place stretches before waited lasts).more) → link.lost ≡ x.lost → x.down ≡ [] → x.up ≡ [] → x.machine.console.done ≡ false → x.machine.console.ready ≡ true → x.machine.state ≡ Runs →
      Idle most x.machine now → Matched link Silent (record x { machine = now })
  silence x link now (inr s) stub down up lost no_down no_up done ready running idle = absurd (halted_not x.machine.state running s.halted)
  silence x link now (inl g) stub down up lost no_down no_up done ready running idle =
      let q : Quieted x link most now = quieted most x link now g stub down up lost done ready idle (inr (few g.point x.machine.codes.n)) in
      let k = q.going in
      let quiet = quiet_of place stretches (top_of before) k.point k.base.stub k.base.late k.base.more now q.listens k.facts in
      let under = under_of k.point k.base.stub k.base.late k.base.more now q.listens k.facts in
      record {
        link = q.next;
        matches = record {
          times = most;
          moves = q.moves;
          down = q.down ∙ empty_down k.base.late now.console.done now.console.came x.down quiet.0 q.done no_down;
          up = q.up ∙ empty_up x.up now.console.ready now.console.leaving k.base.more no_up q.ready quiet.1;
          address = under.0;
          later = under.1;
          under = ap (λ (f : Filling). f.left) q.stub ∙ under.2;
        };
        seen = record { lasts = inl k; stub = q.stub; down = q.down; up = q.up; lost = q.lost };
      }
    where
      empty_down : (late : List ℕ) (done : Bool) (c : ℕ) (down : List ℕ) → late ≡ [] → done ≡ false → down ≡ [] → (late ++ (if done then c ∷ [] else [])) ++ down ≡ []
      empty_down late done c down none isnt empty = ap (λ l. (l ++ (if done then c ∷ [] else [])) ++ down) none ∙ (ap (λ d. (if d then c ∷ [] else []) ++ down) isnt ∙ empty)

      empty_up : (up : List ℕ) (ready : Bool) (c : ℕ) (more : List ℕ) → up ≡ [] → ready ≡ true → more ≡ [] → up ++ ((if ready then [] else c ∷ []) ++ more) ≡ []
      empty_up up ready c more empty is none = ap (λ l. l ++ ((if ready then [] else c ∷ []) ++ more)) empty ∙ (ap (λ r. (if r then [] else c ∷ []) ++ more) is ∙ none)

  -- ---- all that happens

  matched : (x : Bench) (link : Link) (what : Happening) (y : Bench) → Seen x link → Happens x what y → Matched link what y
  matched x link Silent y k (no_down, no_up, done, ready, running, idle, now) = subst (Matched link Silent) (sym now) (silence x link y.machine k.lasts k.stub k.down k.up k.lost no_down no_up done ready running idle)
  matched x link Instructs y k h = subst (Matched link Instructs) (sym h) (instructs x link k.lasts k.stub k.down k.up k.lost)
  matched x link Arrives y k (c, rest, first, low, now) = subst (Matched link Arrives) (sym now) (arrives_so x link c rest first low k.lasts k.stub k.down k.up k.lost)
  matched x link Goes y k (busy, now) =
      subst (Matched link Goes) (sym (now ∙ ap (λ (c : Console). record x { machine = record x.machine { console = c }; up = x.up ++ x.machine.console.leaving ∷ [] }) (is_left x.machine.console busy))) (goes_so x link busy k.lasts k.stub k.down k.up k.lost)
    where
      is_left : (c : Console) → c.ready ≡ false → left c ≡ record c { ready = true; gone = c.gone ++ c.leaving ∷ [] }
      is_left c busy = ap (λ on. if on then c else record c { ready = true; gone = c.gone ++ c.leaving ∷ [] }) busy
  matched x link (LosesDown n) y k (inside, now) =
      let front = (base_of place stretches before waited k.lasts).late ++ held x.machine.console in
      subst (Matched link (LosesDown n)) (sym now) record {
        link = record link { down = remove link.down (length front + n); lost = link.lost + 1 };
        matches = inr (inr (inl (length front + n, within front x.down link.down n k.down inside, refl)));
        seen = record {
          lasts = k.lasts;
          stub = k.stub;
          up = k.up;
          lost = ap (λ n. n + 1) k.lost;
          down = ap (λ l. remove l (length front + n)) k.down ∙ (remove-append_right front x.down (length front) (length front + n) refl (more_than (length front) n) ∙ ap (λ i. front ++ remove x.down i) (back (length front) n));
        };
      }
    where
      within : (front down all : List ℕ) (n : ℕ) → all ≡ front ++ down → n < length down → length front + n < length all
      within front down all n is inside = subst (λ l. length front + n < length l) (sym is) (omega (arith, length-append front down))

      more_than : (a n : ℕ) → a ≤ a + n
      more_than a n = omega arith

      back : (a n : ℕ) → a + n - a ≡ n
      back a n = omega arith
  matched x link (LosesUp n) y k (inside, now) =
      let out = waiting x.machine.console ++ (base_of place stretches before waited k.lasts).more in
      subst (Matched link (LosesUp n)) (sym now) record {
        link = record link { up = remove link.up n; lost = link.lost + 1 };
        matches = inr (inr (inr (n, within x.up out link.up n k.up inside, refl)));
        seen = record {
          lasts = k.lasts;
          stub = k.stub;
          down = k.down;
          lost = ap (λ n. n + 1) k.lost;
          up = ap (λ l. remove l n) k.up ∙ remove-append_left x.up out n inside;
        };
      }
    where
      within : (up out all : List ℕ) (n : ℕ) → all ≡ up ++ out → n < length up → n < length all
      within up out all n is inside = subst (λ l. n < length l) (sym is) (omega (arith, length-append up out))
  matched x link (Sends c) y k now =
      subst (Matched link (Sends c)) (sym now) record {
        link = record link { down = link.down ++ c ∷ [] };
        matches = refl;
        seen = record {
          lasts = k.lasts;
          stub = k.stub;
          up = k.up;
          lost = k.lost;
          down = ap (λ l. l ++ c ∷ []) k.down ∙ append_assoc ((base_of place stretches before waited k.lasts).late ++ held x.machine.console) x.down (c ∷ []);
        };
      }
  matched x link (Hears c) y k (rest, first, now) =
      let out = waiting x.machine.console ++ (base_of place stretches before waited k.lasts).more in
      subst (Matched link (Hears c)) (sym now) record {
        link = record link { up = rest ++ out };
        matches = (rest ++ out, k.up ∙ ap (λ l. l ++ out) first, refl);
        seen = record { lasts = k.lasts; stub = k.stub; down = k.down; up = refl; lost = k.lost };
      }

  pub all_matched : (x : Bench) (link : Link) (what : List Happening) (y : Bench) → Seen x link → Ran x what y → (z : Link) × Follows link what z × Seen y z
  all_matched x link [] y k now = (link, refl, subst (λ b. Seen b link) (sym now) k)
  all_matched x link (first ∷ what) y k (z, happens, ran) =
      let one = matched x link first z k happens in
      let rest = all_matched z one.link what y one.seen ran in
      (rest.0, (one.link, one.matches, rest.1), rest.2)

  -- what is seen, as it was to be shown
  pub shown : (bench : Bench) (link : Link) (lasts : Lasts place stretches before waited bench.machine) → link.machine ≡ (base_of place stretches before waited lasts).stub → link.down ≡ ((base_of place stretches before waited lasts).late ++ held bench.machine.console) ++ bench.down →
      link.up ≡ bench.up ++ (waiting bench.machine.console ++ (base_of place stretches before waited lasts).more) → link.lost ≡ bench.lost → Shows bench link
  shown bench link (inl k) stub down up lost = record {
    late = k.base.late;
    more = k.base.more;
    few = k.base.few;
    described = inl k.running;
    memory = k.base.memory ∙ ap (λ (f : Filling). f.memory) (sym stub);
    down = down;
    up = up;
    lost = lost;
    halted = λ e. absurd (apart bench.machine.state k.running e);
  }
    where
      apart : (s : State) → s ≡ Runs → s ≡ Halted → ⊥
      apart s is isnt = cc
  shown bench link (inr k) stub down up lost = record {
    late = k.base.late;
    more = k.base.more;
    few = k.base.few;
    described = inr k.halted;
    memory = k.base.memory ∙ ap (λ (f : Filling). f.memory) (sym stub);
    down = down;
    up = up;
    lost = lost;
    halted = λ e. (k.late, k.more, ap (λ (f : Filling). f.left) stub ∙ k.left);
  }

pub are_seen_so : StubsAreSeenSo
are_seen_so place stretches x y what is ran =
    let m = x.machine in
    let room = roomy place stretches m is in
    let start = opening place stretches m is in
    let all = all_matched place stretches m.memory (waiting m.console) room is.size is.stands.fit x (opened stretches x) what y
    record { lasts = start; stub = refl; down = refl; up = ap (λ l. x.up ++ l) (sym (append-nil (waiting m.console))); lost = refl } ran in
    let seen = all.2 in
    (all.0, all.1, shown place stretches m.memory (waiting m.console) room is.size is.stands.fit y all.0 seen.lasts seen.stub seen.down seen.up seen.lost)

-- What passes.
use Rattle.std.proofs.Common.{◌≡◌, ℕ, zero, suc, ◌+◌, ◌<◌, false, List, [], ◌∷◌, ◌++◌, length, inl, inr, refl, arith, ap, sym, subst, ◌∙◌, append_assoc, append-nil, length-append}
use Rattle.std.specs.List.{remove}
use Rattle.std.proofs.lemmas.List.Edits.{remove-append_left}
use Rattle.odt_machine.specs.Machine.{Machine}
use Rattle.host_devices.specs.declared.item.Item.{Item}
use Rattle.exchange_law.specs.Station.{Program, Meets, IsHaltText, Each, running}
use Rattle.exchange_law.specs.Line.{Takes as StationTakes, Moves as LineMoves, MovesOn, Passes}
use Rattle.honest_line.proofs.Passings.{any_then}
use Rattle.exchange_law.proofs.Links.{moves_first}
use Rattle.stub.specs.Filling.{Filling, begun, taken}
use Rattle.stub.specs.Law.{seven}
use Rattle.stub.specs.Seen.{Happening, Instructs, Arrives, Goes, LosesDown, LosesUp, Sends, Hears, Silent, MovesTimes as LinkMovesTimes, Link, Moves, Follows, opened}
use Rattle.stub.proofs.Seen.{are_seen_so}
use Rattle.exchange_law.specs.StubStation.{station_by, station, goodbye, as_line, items_of, IsSeven, SendsSeven, StubsAreStations, StubsBeginFresh}
use Rattle.exchange_law.proofs.Steps.{Fine, fine_taken, may_do}

-- ---- characters of seven bits

each_remove : (P : ℕ → Type 0) (xs : List ℕ) (k : ℕ) → Each P xs → Each P (remove xs k)
each_remove P [] zero h = tt
each_remove P [] (suc k) h = tt
each_remove P (x ∷ xs) zero h = h.1
each_remove P (x ∷ xs) (suc k) h = (h.0, each_remove P xs k h.1)

each_push : (P : ℕ → Type 0) (xs : List ℕ) (c : ℕ) → Each P xs → P c → Each P (xs ++ c ∷ [])
each_push P [] c h p = (p, tt)
each_push P (x ∷ xs) c h p = (h.0, each_push P xs c h.1 p)

-- ---- a link and its line

module _ (program : Program) (m : Machine) (farewell : List ℕ) (good : IsHaltText farewell) where
  pub record Sound (x : Link) : Type 0 where
    pub fine : Fine x.machine
    pub seven : Each IsSeven x.down

  pub record Carried (x y : Link) : Type 0 where
    pub moves : MovesOn program (as_line m farewell x) (as_line m farewell y)
    pub sound : Sound y

  takes_on : (x : Link) (f : Filling) (c : ℕ) (rest text : List ℕ) (a : ℕ) (later : List ℕ) → f ≡ taken x.machine c → x.machine.left ≡ a ∷ later → x.down ≡ c ∷ rest → f.answers ≡ x.machine.answers ++ text → Fine x.machine →
      StationTakes program (as_line m farewell x) (as_line m farewell (record { machine = f; down = rest; up = x.up ++ text; lost = x.lost }))
  takes_on x f c rest text a later is under first answers fine = record {
    c = c;
    rest = rest;
    first = first;
    station' = station m f;
    answer = text ++ goodbye f.left farewell;
    meets = subst (λ l. Meets program (station_by m x.machine l).stub (station_by m x.machine l).odt c (station m f) (text ++ goodbye f.left farewell)) (sym under)
        (subst (λ (g : Filling). Meets program (station_by m x.machine (a ∷ later)).stub (station_by m x.machine (a ∷ later)).odt c (station m g) (text ++ goodbye g.left farewell)) (sym is)
        (may_do m farewell good x.machine a later c text under fine (ap (λ (g : Filling). g.answers) (sym is) ∙ answers)));
    now = ap (λ up. record { machine = station m f; down = rest; up = up; lost = x.lost }) (joined x.up text (goodbye f.left farewell) (goodbye x.machine.left farewell) (ap (λ l. goodbye l farewell) under));
  }
    where
      joined : (up text end before : List ℕ) → before ≡ [] → (up ++ text) ++ end ≡ (up ++ before) ++ (text ++ end)
      joined up text end before none = append_assoc up text end ∙ ap (λ l. l ++ (text ++ end)) (sym (ap (λ b. up ++ b) none ∙ append-nil up))

  carried : (x y : Link) → Sound x → Moves x y → Carried x y
  carried x y sound (inl same) = record { moves = (zero, ap (as_line m farewell) same); sound = subst Sound (sym same) sound }
  carried x y sound (inr (inl t)) =
      let low : Each IsSeven (t.character ∷ t.rest) = subst (Each IsSeven) t.first sound.seven in
      let plain : seven t.character ≡ t.character = low_is t.character low.0 in
      let takes = takes_on x (taken x.machine (seven t.character)) t.character t.rest t.text t.address t.later (ap (taken x.machine) plain) t.under t.first t.answers sound.fine in
      record {
        moves = (1, (as_line m farewell (record { machine = taken x.machine (seven t.character); down = t.rest; up = x.up ++ t.text; lost = x.lost }), inl takes, ap (as_line m farewell) t.now));
        sound = subst Sound (sym t.now) record { fine = fine_taken x.machine (seven t.character) t.address t.later t.under sound.fine; seven = low.1 };
      }
    where
      low_is : (c : ℕ) → c < 128 → seven c ≡ c
      low_is c low = omega arith
  carried x y sound (inr (inr (inl (k, inside, now)))) = record {
    moves = (1, (as_line m farewell (record x { down = remove x.down k; lost = x.lost + 1 }), inr (inl (k, inside, refl)), ap (as_line m farewell) now));
    sound = subst Sound (sym now) record { fine = sound.fine; seven = each_remove IsSeven x.down k sound.seven };
  }
  carried x y sound (inr (inr (inr (k, inside, now)))) = record {
    moves = (
      1,
      (
        as_line m farewell (record x { up = remove x.up k; lost = x.lost + 1 }),
        inr (inr (k, longer x.up (goodbye x.machine.left farewell) k inside, ap (λ l. record (as_line m farewell x) { up = l; lost = x.lost + 1 }) (sym (remove-append_left x.up (goodbye x.machine.left farewell) k inside)))),
        ap (as_line m farewell) now,
      ),
    );
    sound = subst Sound (sym now) record { fine = sound.fine; seven = sound.seven };
  }
    where
      longer : (up more : List ℕ) (k : ℕ) → k < length up → k < length (up ++ more)
      longer up more k inside = omega (arith, length-append up more)

  -- any number of moves
  carried_all : (n : ℕ) (x y : Link) → Sound x → LinkMovesTimes n x y → Carried x y
  carried_all zero x y sound is = record { moves = (zero, ap (as_line m farewell) is); sound = subst Sound (sym is) sound }
  carried_all (suc n) x y sound (z, move, more) =
      let one = carried x z sound move in
      let rest = carried_all n z y one.sound more in
      record { moves = any_then (LineMoves program) (as_line m farewell x) (as_line m farewell z) (as_line m farewell y) one.moves rest.moves; sound = rest.sound }

  -- one thing happens that is neither sent nor heard
  on_by : (x z y : Link) (items : List Item) → Carried x z → Passes program (as_line m farewell z) items (as_line m farewell y) → Passes program (as_line m farewell x) items (as_line m farewell y)
  on_by x z y items one rest = moves_first program items (as_line m farewell x) (as_line m farewell z) (as_line m farewell y) one.moves rest

  pub passes : (x y : Link) (what : List Happening) → Sound x → SendsSeven what → Follows x what y → Passes program (as_line m farewell x) (items_of what) (as_line m farewell y)
  passes x y [] sound sends now = (zero, ap (as_line m farewell) now)
  passes x y (Instructs ∷ what) sound sends (z, moves, more) = let one = carried x z sound moves in on_by x z y (items_of what) one (passes z y what one.sound sends more)
  passes x y (Arrives ∷ what) sound sends (z, moves, more) = let one = carried x z sound moves in on_by x z y (items_of what) one (passes z y what one.sound sends more)
  passes x y (Goes ∷ what) sound sends (z, moves, more) = let one = carried x z sound moves in on_by x z y (items_of what) one (passes z y what one.sound sends more)
  passes x y (LosesDown k ∷ what) sound sends (z, moves, more) = let one = carried x z sound moves in on_by x z y (items_of what) one (passes z y what one.sound sends more)
  passes x y (LosesUp k ∷ what) sound sends (z, moves, more) = let one = carried x z sound moves in on_by x z y (items_of what) one (passes z y what one.sound sends more)
  passes x y (Sends c ∷ what) sound sends (z, now, more) =
      let after : Sound z = subst Sound (sym now) record { fine = sound.fine; seven = each_push IsSeven x.down c sound.seven sends.0 } in
      subst (λ (l : Link). Passes program (as_line m farewell l) (items_of what) (as_line m farewell y)) now (passes z y what after sends.1 more)
  passes x y (Hears c ∷ what) sound sends (z, (rest, first, now), more) =
      let after : Sound z = subst Sound (sym now) record { fine = sound.fine; seven = sound.seven } in (
        as_line m farewell x,
        as_line m farewell z,
        (zero, refl),
        (rest ++ goodbye x.machine.left farewell, ap (λ l. l ++ goodbye x.machine.left farewell) first, ap (as_line m farewell) now),
        passes z y what after sends more,
      )
  passes x y (Silent ∷ what) sound sends (z, settles, more) =
      let all = carried_all settles.times x z sound settles.moves in
      (as_line m farewell z, as_line m farewell z, all.moves, (settles.down, empty z.up z.machine.left settles.address settles.later settles.up settles.under, refl), passes z y what all.sound sends more)
    where
      empty : (up : List ℕ) (left : List ℕ) (a : ℕ) (later : List ℕ) → up ≡ [] → left ≡ a ∷ later → up ++ goodbye left farewell ≡ []
      empty up left a later none under = ap (λ l. l ++ goodbye left farewell) none ∙ ap (λ l. goodbye l farewell) under

pub are_stations : StubsAreStations
are_stations program place stretches m run is may =
    let x = run.before in
    let seen = are_seen_so place stretches x run.behind run.what is may.ran in
    record {
      link = seen.0;
      passes = passes program m run.farewell may.farewell (opened stretches x) seen.0 run.what
          (record { fine = record { wide = is.wide; high = tt }; seven = may.under_way }) may.sends seen.1;
      shows = seen.2;
    }

pub begin_fresh : StubsBeginFresh
begin_fresh m memory stretches a left is = ap (station_by m (begun memory stretches)) is ∙ ap (λ those. running m memory those false) (sym is)

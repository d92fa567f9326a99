-- A front of what stubs say is what fewer stubs say.
use Rattle.std.proofs.Common.{◌≡◌, ◌⊎◌, ℕ, Bool, true, false, if◌then◌else◌, List, [], ◌∷◌, ◌++◌, Option, Some, None, inl, inr, refl, ap, sym, ◌∙◌, append-nil, append_assoc}
use Rattle.std.specs.Prelude.{option_to_list}
use Rattle.tape_image.specs.Image.{Image}
use Rattle.host_core.specs.declared.heard.Heard.{Heard}
use Rattle.host_devices.specs.declared.item.Item.{Item}
use Rattle.host_devices.specs.declared.item.Item.TheVariants.{Sent, Heard as Came}
use Rattle.host_devices.specs.Dialogue.{said, dialogue}
use Rattle.load_lives.proofs.Stopping.{fronts_are_stopped}
use Rattle.exchange_core.specs.declared.chunk.Chunk.{Chunk}
use Rattle.exchange_core.specs.declared.exchange.Exchange.{Exchange}
use Rattle.exchange_core.specs.Exchange.{advance, begun as exchange_begun}
use Rattle.exchange_law.specs.Law.{dialogue as exchange_dialogue, said_all}
use Rattle.load_lives.specs.StubParts.{StubPart, bringer, exchange_said, starts, stubs_said, verified_after}
use Rattle.load_lives.specs.Stops.{IsStoppedAt}
use Rattle.machine_load.specs.Fronts.{AreStoppedAt, StubFrontsAreStopped}

-- a front of two lists is one of the first, or the first and a front of the second
cut : {A : Type 0} (xs ys front rest : List A) → xs ++ ys ≡ front ++ rest → ((more : List A) × (xs ≡ front ++ more)) ⊎ ((later : List A) × (front ≡ xs ++ later) × (ys ≡ later ++ rest))
cut {A} [] ys front rest e = inr (front, refl, e)
cut {A} (x ∷ xs) ys [] rest e = inl (x ∷ xs, refl)
cut {A} (x ∷ xs) ys (y ∷ front) rest e =
    let same : x ≡ y = cc e in
    elim (cut xs ys front rest (cc e)) [
      | inl within ↦ inl (within.0, ap (λ z. z ∷ xs) same ∙ ap (λ l. y ∷ l) within.1)
      | inr behind ↦ inr (behind.0, ap (λ z. z ∷ front) (sym same) ∙ ap (λ l. x ∷ l) behind.1, behind.2)
    ]

-- a front of characters that are sent leaves the others unsent
keys_cut : (keys : List ℕ) (front more : List Item) → said_all keys ≡ front ++ more → (unsent : List ℕ) × (said_all keys ≡ front ++ said_all unsent)
keys_cut keys [] more e = (keys, refl)
keys_cut [] (item ∷ front) more e = absurd (cc e)
keys_cut (key ∷ keys) (item ∷ front) more e =
    let same : Sent key ≡ item = cc e in
    let rest = keys_cut keys front more (cc e) in (rest.0, ap (λ i. i ∷ said_all keys) same ∙ ap (λ l. item ∷ l) rest.1)

-- what a stopped exchange says
abbrev StopsSo : Image → List Chunk → Exchange → List Item → Type 0
StopsSo image chunks e front = (fewer : List Heard) × (unsent : List ℕ) × (exchange_dialogue image chunks e fewer ≡ front ++ said_all unsent)

exchange_cut : (image : Image) (chunks : List Chunk) (e : Exchange) (things : List Heard) (front rest : List Item) → exchange_dialogue image chunks e things ≡ front ++ rest → StopsSo image chunks e front
exchange_cut image chunks e things [] rest is = ([], [], refl)
exchange_cut image chunks e [] (item ∷ front) rest is = absurd (cc is)
exchange_cut image chunks e (thing ∷ things) (item ∷ front) rest is =
    let next = advance image chunks e thing in
    let same : Came thing ≡ item = cc is in
    elim (cut (said_all next.keys) (exchange_dialogue image chunks next.next things) front rest (cc is)) [
      | inl within ↦
          let left = keys_cut next.keys front within.0 within.1 in (
            thing ∷ [],
            left.0,
            ap (λ i. i ∷ (said_all next.keys ++ [])) same ∙ ap (λ l. item ∷ l) (append-nil (said_all next.keys) ∙ left.1),
          )
      | inr behind ↦
          let later = exchange_cut image chunks next.next things behind.0 rest behind.2 in (
            thing ∷ later.0,
            later.1,
            ap (λ i. i ∷ (said_all next.keys ++ exchange_dialogue image chunks next.next later.0)) same ∙ ap (λ l. item ∷ l)
                (ap (λ l. said_all next.keys ++ l) later.2 ∙ (sym (append_assoc (said_all next.keys) behind.0 (said_all later.1)) ∙ ap (λ l. l ++ said_all later.1) (sym behind.1))),
          )
    ]

-- the same, where there was an exchange
where_cut : (begins : Bool) (image : Image) (chunks : List Chunk) (e : Exchange) (things : List Heard) (front rest : List Item) → (if begins then exchange_dialogue image chunks e things else []) ≡ front ++ rest
    → (fewer : List Heard) × (unsent : List ℕ) × ((if begins then exchange_dialogue image chunks e fewer else []) ≡ front ++ said_all unsent)
where_cut true image chunks e things front rest is = exchange_cut image chunks e things front rest is
where_cut false image chunks e things [] rest is = ([], [], refl)
where_cut false image chunks e things (item ∷ front) rest is = absurd (cc is)

none_exchanged : (begins : Bool) (items : List Item) → items ≡ [] → (if begins then items else []) ≡ []
none_exchanged true items none = none
none_exchanged false items none = refl

key_said : (key : Option ℕ) → said key ≡ said_all (option_to_list key)
key_said None = refl
key_said (Some key) = refl

pub stub_fronts : StubFrontsAreStopped
stub_fronts program tape v [] front rest are is = record { fewer = []; unsent = []; parts = tt; says = none front is }
  where
    none : (front : List Item) → [] ≡ front ++ rest → [] ≡ front ++ []
    none [] e = refl
    none (item ∷ front) e = absurd (cc e)
stub_fronts program tape v (part ∷ more) front rest are is =
    elim (cut talk (exchange_said tape v part ++ later) front rest is) [
      | inl within ↦ typed (fronts_are_stopped (bringer part) part.brought front within.0 within.1)
      | inr behind ↦ elim (cut (exchange_said tape v part) later behind.0 rest behind.2) [
        | inl half ↦ exchanged behind.0 behind.1 (where_cut (starts part) tape.image part.chunks (exchange_begun v part.duplex) part.exchanged behind.0 half.0 half.1)
        | inr all ↦
            let s = stub_fronts program tape (verified_after tape v part) more all.0 rest are.2 all.2 in
            record {
              fewer = part ∷ s.fewer;
              unsent = s.unsent;
              parts = (are.0, are.1, s.parts);
              says = ap (λ l. talk ++ (exchange_said tape v part ++ l)) s.says ∙ (ap (λ l. talk ++ l) (sym (append_assoc (exchange_said tape v part) all.0 (said_all s.unsent)) ∙ ap (λ l. l ++ said_all s.unsent) (sym all.1))
                  ∙ (sym (append_assoc talk behind.0 (said_all s.unsent)) ∙ ap (λ l. l ++ said_all s.unsent) (sym behind.1)));
            }
      ]
    ]
  where
    talk : List Item
    talk = dialogue (bringer part) part.brought

    later : List Item
    later = stubs_said tape (verified_after tape v part) more

    typed : IsStoppedAt (bringer part) part.brought front → AreStoppedAt program tape v front
    typed s =
        let less : StubPart = record part { brought = s.fewer; exchanged = [] } in
        record {
          fewer = less ∷ [];
          unsent = option_to_list s.unsent;
          parts = (are.0, are.1, tt);
          says = ap (λ l. dialogue (bringer part) s.fewer ++ (l ++ [])) (none_exchanged (starts less) [] refl)
              ∙ (append-nil (dialogue (bringer part) s.fewer) ∙ (s.says ∙ ap (λ l. front ++ l) (key_said s.unsent)));
        }

    exchanged : (within : List Item) → front ≡ talk ++ within
        → (fewer : List Heard) × (unsent : List ℕ) × ((if starts part then exchange_dialogue tape.image part.chunks (exchange_begun v part.duplex) fewer else []) ≡ within ++ said_all unsent)
        → AreStoppedAt program tape v front
    exchanged within front_is (fewer, unsent, said_is) =
        let less : StubPart = record part { exchanged = fewer } in
        record {
          fewer = less ∷ [];
          unsent = unsent;
          parts = (are.0, are.1, tt);
          says = ap (λ l. talk ++ l) (append-nil (exchange_said tape v less) ∙ said_is) ∙ (sym (append_assoc talk within (said_all unsent)) ∙ ap (λ l. l ++ said_all unsent) (sym front_is));
        }

use Rattle.std.proofs.Common.{rules, refl, ◌≡◌, ℕ, ◌+◌, ◌-◌, ◌<◌, ◌≤◌, List, [], ◌∷◌, ◌++◌, length, take, drop, arith, ap, ◌∙◌, sym, subst, take-append-drop, append_assoc}
use Rattle.std.proofs.lemmas.List.{length-take-le, length-append}
use Rattle.std.proofs.lemmas.Result.{err_from_is_err_and}
use Rattle.tape_values.specs.Block.{BlockValue, block_at, data_block, transfer_block}
use Rattle.tape_values.specs.Tape.{tape_limit}
use Rattle.tape_blocks.specs.Head.{IsHead, IsFaultyBlock, IsWanting}
use Rattle.tape_blocks.specs.Standing.{EndsTape, IsRefusedForGood}
use Rattle.tape_blocks.specs.PartialTape.{part_of}
use Rattle.tape_blocks.specs.declared.fault.Fault.{Fault}
use Rattle.tape_blocks.specs.declared.fault.Why.TheVariants.{Cut}
use Rattle.tape_values.proofs.Pieces.{length-framed}
use Rattle.tape_blocks.proofs.Longer.{blank_before}
use Rattle.tape_blocks.proofs.Parts.{GrowsTo, just_block, whole_body}
use Rattle.tape_blocks.proofs.Placings.{place_more, places_grow, same_placed}
use Rattle.tape_blocks.proofs.Standings.{IsReadTo-grow}
use Rattle.tape_blocks.proofs.Steps.{no_part, wants_nothing, step_data, step_transfer, step_fault, good_longer, same_read, split_nothing}
use Rattle.tape_blocks.proofs.partial_tape.PartialTape.go_on.Goals as goal
use Rattle.tape_blocks.proofs.partial_tape.PartialTape.go_on.Goals.{After-deref, In_ok-head_of, In_ok-end_block-in-Data}

-- the bytes that are taken
abbrev taken : After-deref → List ℕ
taken c = take c.min-count.result c.args.text.now

fits : (c : After-deref) → c.min-count.result ≤ length c.args.text.now
fits c = search rules

few : (c : After-deref) → c.min-count.result ≤ c.lacking.result
few c = search rules

length-taken : (c : After-deref) → length (taken c) ≡ c.min-count.result
length-taken c = length-take-le c.min-count.result c.args.text.now (fits c)

-- the part with them behind it
joined : (c : After-deref) → c.as_slice.result.now ++ c.deref.result.now ≡ part_of c.args.self.now ++ taken c
joined c =
    ap (λ x. x ++ c.deref.result.now) c.as_slice.ensures.value ∙ ap (λ x. c.put.new.self.header.items ++ x) c.deref.ensures.value
    ∙ c.in_ok-put.ensures.added

some : (c : After-deref) → 0 < length (part_of c.args.self.now)
some c = let l = length-append c.args.self.now.header.items c.args.self.now.body.items in let h = c.requires.under_way in omega arith

grows : (c : After-deref) → GrowsTo (part_of c.args.self.now) (taken c)
grows c =
    let l = length-taken c in
    let f = few c in
    record {
      header = λ h. let b = c.lacking.ensures.header h in omega arith;
      block = λ h. let b = c.lacking.ensures.block h in omega arith;
    }

found : (c : In_ok-head_of) → IsHead c.args.self.now.place (part_of c.args.self.now ++ taken ((goal.at.In_ok-head_of c).After-deref)) c.in_ok-head_of.field-0
found c =
    subst (λ n. IsHead n (part_of c.args.self.now ++ taken ((goal.at.In_ok-head_of c).After-deref)) c.in_ok-head_of.field-0) c.in_ok-put.ensures.place
    (subst (λ t. IsHead c.put.new.self.place t c.in_ok-head_of.field-0) (joined ((goal.at.In_ok-head_of c).After-deref)) c.in_ok-head_of.ensures)

pub head_of-requires-clause-no_blank : goal.head_of-requires-clause-no_blank
head_of-requires-clause-no_blank c = λ rest e.
    let a = (goal.at.head_of-requires-clause-no_blank c).After-deref in
    let b = blank_before (part_of c.args.self.now) (taken a) rest (some a) (sym (joined a) ∙ e) in
    (c.requires.part.wanting (record { at = 0; why = Cut })).no_piece.no_blank b.0 b.1

within : (c : After-deref) → c.args.self.now.place + length (part_of c.args.self.now ++ taken c) ≤ tape_limit
within c = let l = length-append (part_of c.args.self.now) (taken c) in let k = length-taken c in let f = fits c in omega (arith, c.requires.within)

pub returns-in_err-head_of-clause-step : goal.returns-in_err-head_of-clause-step
returns-in_err-head_of-clause-step c =
    let a = (goal.at.returns-in_err-head_of-clause-step c).After-deref in
    let p = err_from_is_err_and c.from_residual-in_err-head_of.result c.from_residual-in_err-head_of.ensures.1 in
    let fault : Fault = c.in_err-head_of.field-0.0 in
    let h : IsFaultyBlock c.args.self.now.place (part_of c.args.self.now ++ taken a) fault =
    subst (λ n. IsFaultyBlock n (part_of c.args.self.now ++ taken a) fault) c.in_ok-put.ensures.place
    (subst (λ t. IsFaultyBlock c.put.new.self.place t fault) (joined a) c.in_err-head_of.ensures) in
    rw (p.1, p.2) (λ fed read.
    subst (λ t. IsRefusedForGood t fault)
    (append_assoc fed (taken a) (drop c.min-count.result c.args.text.now) ∙ ap (λ t. fed ++ t) (take-append-drop c.min-count.result c.args.text.now))
    (good_longer (fed ++ taken a) (drop c.min-count.result c.args.text.now) fault
    (step_fault fed (taken a) (part_of c.args.self.now) _ c.args.self.now.place fault read (within a) h)))

pub returns-in-Part-clause-step : goal.returns-in-Part-clause-step
returns-in-Part-clause-step c =
    let a = (goal.at.returns-in-Part-clause-step c).After-deref in
    let h : IsWanting c.args.self.now.place (part_of c.args.self.now ++ taken a) =
    subst (IsHead c.args.self.now.place (part_of c.args.self.now ++ taken a)) c.in-Part.is (found ((goal.at.returns-in-Part-clause-step c).In_ok-head_of)) in
    let added : part_of c.put.new.self ≡ part_of c.args.self.now ++ taken a = c.in_ok-put.ensures.added in
    let place : c.put.new.self.place ≡ c.args.self.now.place = c.in_ok-put.ensures.place in
    let w = within a in
    let l : length (part_of c.put.new.self) ≡ length (part_of c.args.self.now ++ taken a) = ap length added in (
      fits a,
      record {
        split = c.in_ok-put.ensures.split;
        wanting = subst (λ n. IsWanting n (part_of c.put.new.self)) (sym place) (subst (IsWanting c.args.self.now.place) (sym added) h);
        within = omega arith;
      },
      λ fed read.
          same_read _ _ _ _ _ _ _ _ refl (ap (λ v. v.items) (sym c.in_ok-put.ensures.kept)) (sym place) (sym added)
          (IsReadTo-grow fed (taken a) _ c.args.self.now.place (part_of c.args.self.now) read),
    )

pub returns-in-Part-clause-places : goal.returns-in-Part-clause-places
returns-in-Part-clause-places c = λ fed read placed.
    same_placed _ _ _ _ _ (ap (λ v. v.items) (sym c.in_ok-put.ensures.kept)) (ap (λ v. v.items) (sym c.in_ok-put.ensures.places)) (places_grow fed _ _ _ placed)

-- the block that came whole
abbrev block : In_ok-end_block-in-Data → BlockValue
block c = block_at c.in-Data.address c.in-Data.field-1.now

just : (c : In_ok-end_block-in-Data) → part_of c.args.self.now ++ taken ((goal.at.In_ok-end_block-in-Data c).After-deref) ≡ data_block (block c)
just c =
    let a = (goal.at.In_ok-end_block-in-Data c).After-deref in
    let h = subst (IsHead c.args.self.now.place (part_of c.args.self.now ++ taken a)) c.in-Data.is (found ((goal.at.In_ok-end_block-in-Data c).In_ok-head_of)) in
    just_block c.in-Data.address c.in-Data.field-1.now (part_of c.args.self.now) (taken a) (grows a) h.2

blocks_are : (c : In_ok-end_block-in-Data) → c.end_block.new.self.blocks.items ≡ c.args.self.now.blocks.items ++ block c ∷ []
blocks_are c =
    let body = whole_body c.put.new.self.header.items c.put.new.self.body.items c.in-Data.address c.in-Data.field-1.now c.in_ok-put.ensures.split
    (c.in_ok-put.ensures.added ∙ just c) in
    c.in_ok-end_block-in-Data.ensures.added
    ∙ ap (λ x. x ++ block_at c.in-Data.address (take (length c.put.new.self.body.items - 1) c.put.new.self.body.items) ∷ []) (ap (λ v. v.items) c.in_ok-put.ensures.kept)
    ∙ ap (λ x. c.args.self.now.blocks.items ++ block_at c.in-Data.address x ∷ []) body.bytes

places_are : (c : In_ok-end_block-in-Data) → c.end_block.new.self.places.items ≡ c.args.self.now.places.items ++ c.args.self.now.place ∷ []
places_are c =
    c.in_ok-end_block-in-Data.ensures.places ∙ ap (λ v. v.items ++ c.put.new.self.place ∷ []) c.in_ok-put.ensures.places
    ∙ ap (λ n. c.args.self.now.places.items ++ n ∷ []) c.in_ok-put.ensures.place

pub returns-in_ok-end_block-in-Data-clause-places : goal.returns-in_ok-end_block-in-Data-clause-places
returns-in_ok-end_block-in-Data-clause-places c = λ fed read placed.
    let o = (goal.at.returns-in_ok-end_block-in-Data-clause-places c).In_ok-end_block-in-Data in
    same_placed _ _ _ _ _ (sym (blocks_are o)) (sym (places_are o))
    (place_more fed _ (part_of c.args.self.now) _ _ c.args.self.now.place (block o) read placed (just o))

pub returns-in_ok-end_block-in-Data-clause-step : goal.returns-in_ok-end_block-in-Data-clause-step
returns-in_ok-end_block-in-Data-clause-step c =
    let a = (goal.at.returns-in_ok-end_block-in-Data-clause-step c).After-deref in
    let o = (goal.at.returns-in_ok-end_block-in-Data-clause-step c).In_ok-end_block-in-Data in
    let bytes : List ℕ = c.in-Data.field-1.now in
    let address : ℕ = c.in-Data.address in
    let whole : List ℕ = part_of c.args.self.now ++ taken a in
    let h = subst (IsHead c.args.self.now.place whole) c.in-Data.is (found ((goal.at.returns-in_ok-end_block-in-Data-clause-step c).In_ok-head_of)) in
    let body = whole_body c.put.new.self.header.items c.put.new.self.body.items address bytes c.in_ok-put.ensures.split (c.in_ok-put.ensures.added ∙ just o) in
    let e = c.in_ok-end_block-in-Data.ensures in
    let split = split_nothing c.end_block.new.self.header.items c.end_block.new.self.body.items e.header e.body in
    let none : part_of c.end_block.new.self ≡ [] = no_part c.end_block.new.self.header.items c.end_block.new.self.body.items split e.header in
    let empty : length (part_of c.end_block.new.self) ≡ 0 = ap length none in
    let long = body.length_is in
    let here : c.put.new.self.place ≡ c.args.self.now.place = c.in_ok-put.ensures.place in
    let moved = e.place in
    let place : c.end_block.new.self.place ≡ c.args.self.now.place + (7 + length bytes) = omega arith in
    let l : length whole ≡ 7 + length bytes = ap length (just o) ∙ length-framed address bytes in
    let w = within a in (
      fits a,
      record { split = split; wanting = wants_nothing c.end_block.new.self.place (part_of c.end_block.new.self) none; within = omega arith },
      λ fed read.
          same_read _ _ _ _ _ _ _ _ refl (sym (blocks_are o)) (sym place) (sym none)
          (step_data fed (taken a) (part_of c.args.self.now) _ c.args.self.now.place (block o) read h.0 h.1 (just o)),
    )

pub returns-in-Transfer-clause-places : goal.returns-in-Transfer-clause-places
returns-in-Transfer-clause-places c = λ fed read placed.
    same_placed _ _ _ _ _ (ap (λ v. v.items) (sym c.in_ok-put.ensures.kept)) (ap (λ v. v.items) (sym c.in_ok-put.ensures.places)) (places_grow fed _ _ _ placed)

pub returns-in-Transfer-clause-step : goal.returns-in-Transfer-clause-step
returns-in-Transfer-clause-step c =
    let a = (goal.at.returns-in-Transfer-clause-step c).After-deref in
    let start : ℕ = c.in-Transfer.start in
    let whole : List ℕ = part_of c.args.self.now ++ taken a in
    let h = subst (IsHead c.args.self.now.place whole) c.in-Transfer.is (found ((goal.at.returns-in-Transfer-clause-step c).In_ok-head_of)) in
    let just : whole ≡ transfer_block start = just_block start [] (part_of c.args.self.now) (taken a) (grows a) h.1 in
    let l : length whole ≡ 7 = ap length just ∙ length-framed start [] in
    let w = within a in
    let place : c.put.new.self.place ≡ c.args.self.now.place = c.in_ok-put.ensures.place in (
      fits a,
      λ fed read.
          subst (λ n. EndsTape (fed ++ taken a) c.put.new.self.blocks.items (n + 7) start) (sym place)
          (subst (λ v. EndsTape (fed ++ taken a) v.items (c.args.self.now.place + 7) start) (sym c.in_ok-put.ensures.kept)
          (step_transfer fed (taken a) (part_of c.args.self.now) _ c.args.self.now.place start read just (omega arith) h.0)),
    )

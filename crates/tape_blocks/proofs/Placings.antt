-- The places of blocks, as a text is read on.
use Rattle.std.proofs.Common.{◌≡◌, ℕ, List, [], ◌∷◌, ◌++◌, ◌∙◌, sym, ap, subst, append_assoc, append-nil, take, drop, take-append-drop}
use Rattle.tape_values.specs.Block.{BlockValue, data_block}
use Rattle.tape_blocks.specs.Layout.{ArePlaced}
use Rattle.tape_blocks.specs.Layout.ArePlaced.{None, OneMore}
use Rattle.tape_blocks.specs.Standing.{IsReadTo}
use Rattle.tape_blocks.proofs.Standings.{IsReadTo-grow}

-- more bytes behind
pub places_grow : (text more : List ℕ) (blocks : List BlockValue) (places : List ℕ) → ArePlaced text blocks places → ArePlaced (text ++ more) blocks places
places_grow text more _ _ None = None
places_grow text more _ _ (OneMore blocks places b place rest before r) =
    OneMore blocks places b place (rest ++ more) (places_grow text more blocks places before)
    (subst (IsReadTo (text ++ more) blocks place) (append_assoc (data_block b) rest more) (IsReadTo-grow text more blocks place (data_block b ++ rest) r))

-- one more block
pub place_more : (fed t part : List ℕ) (blocks : List BlockValue) (places : List ℕ) (place : ℕ) (b : BlockValue) → IsReadTo fed blocks place part
    → ArePlaced fed blocks places → part ++ t ≡ data_block b → ArePlaced (fed ++ t) (blocks ++ b ∷ []) (places ++ place ∷ [])
place_more fed t part blocks places place b r before e =
    OneMore blocks places b place [] (places_grow fed t blocks places before)
    (subst (IsReadTo (fed ++ t) blocks place) (e ∙ sym (append-nil (data_block b))) (IsReadTo-grow fed t blocks place part r))

-- the same blocks and places
pub same_placed : (text : List ℕ) (bs cs : List BlockValue) (ps qs : List ℕ) → bs ≡ cs → ps ≡ qs → ArePlaced text bs ps → ArePlaced text cs qs
same_placed text bs cs ps qs e f p = subst (λ x. ArePlaced text cs x) f (subst (λ x. ArePlaced text x ps) e p)

-- a piece of which some bytes are the tape's
pub placed_in_piece : (fed piece : List ℕ) (n : ℕ) (blocks : List BlockValue) (places : List ℕ) → ArePlaced (fed ++ take n piece) blocks places
    → ArePlaced (fed ++ piece) blocks places
placed_in_piece fed piece n blocks places p =
    subst (λ t. ArePlaced t blocks places) (append_assoc fed (take n piece) (drop n piece) ∙ ap (λ t. fed ++ t) (take-append-drop n piece))
    (places_grow (fed ++ take n piece) (drop n piece) blocks places p)

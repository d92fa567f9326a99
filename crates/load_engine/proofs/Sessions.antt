-- What the engine's session says of the host of a load.
use Rattle.std.proofs.Common.{◌≡◌, ℕ, zero, suc, ◌-◌, ◌⊎◌, ◌++◌, List, [], ◌∷◌, length, Option, Some, None, IsSome, inl, inr, refl, arith, ap, sym, subst, ◌∙◌, append-nil, append_assoc, length-append}
use Rattle.std.specs.Prelude.{Contains, option_to_list}
use Rattle.std.proofs.lemmas.List.Elements.{Contains-append_left, Contains-append_right, Contains-append_cases}
use Rattle.host_core.specs.declared.heard.Heard.{Heard}
use Rattle.host_core.specs.declared.phase.End.{End}
use Rattle.host_core.specs.Console.{go}
use Rattle.host_core.specs.Core.{Core}
use Rattle.host_core.specs.Host.{IsHost}
use Rattle.host_core.specs.Laws.{led}
use Rattle.host_core.specs.PhaseTable.{move}
use Rattle.host_core.proofs.Lives.{led_kept}
use Rattle.host_core.proofs.Turns.{kept}
use Rattle.host_devices.specs.declared.item.Item.{Item}
use Rattle.host_devices.specs.declared.item.Item.TheVariants.{Sent, Heard as Came}
use Rattle.host_devices.specs.declared.item.Kept.{Kept}
use Rattle.host_devices.specs.declared.item.Kept.TheVariants.{Go}
use Rattle.host_devices.specs.Dialogue.{LacksKey, said, dialogue, keys_of, news_between}
use Rattle.engine.specs.Keeping.{AllOrFront, LacksLast}
use Rattle.engine.specs.Session.{IsAll, IsDone, SessionTold, Unkept, Unsent}
use Rattle.engine.specs.Stopping.{keep_fault}
use Rattle.engine.specs.Ways.{dialogue as lead_dialogue, led as lead_led, news_of, said_all}
use Rattle.engine.specs.declared.stop.Cut.TheVariants.{LineFailed, TurnsOver}
use Rattle.engine.specs.declared.stop.Stop.TheVariants.{Ended, KeepFailed, CutOff}
use Rattle.engine.proofs.Turns.{only_front, unkept_keys, unkept_news, unsent_key}
use Rattle.load_engine.specs.Driven.{IsSaid}
use Rattle.load_engine.specs.Driving.{Driving, LoadSession, LoadStop}
use Rattle.load_engine.specs.Ways.{loading, loadings}
use Rattle.load_engine.proofs.News.{IsForward, news_none, news_join, move_forward, led_forward}
use Rattle.load_engine.proofs.Steps.{HasStep, has_step, with_key}

-- ---- dialogues

pub led_join : (core : Core) (one two : List Heard) → led core (one ++ two) ≡ led (led core one) two
led_join core [] two = refl
led_join core (heard ∷ one) two = led_join (move core heard).next one two

pub dialogue_join : (core : Core) (one two : List Heard) → dialogue core (one ++ two) ≡ dialogue core one ++ dialogue (led core one) two
dialogue_join core [] two = refl
dialogue_join core (heard ∷ one) two =
    ap (λ rest. Came heard ∷ (said (move core heard).key ++ rest)) (dialogue_join (move core heard).next one two)
    ∙ ap (λ rest. Came heard ∷ rest) (sym (append_assoc (said (move core heard).key) (dialogue (move core heard).next one) (dialogue (led (move core heard).next one) two)))

pub keys_join : (one two : List Item) → keys_of (one ++ two) ≡ keys_of one ++ keys_of two
keys_join [] two = refl
keys_join (Sent key ∷ one) two = ap (λ rest. key ∷ rest) (keys_join one two)
keys_join (Came heard ∷ one) two = keys_join one two

-- ---- as the one engine has it

led_is : (core : Core) (heard : List Heard) → lead_led loadings (loading core) heard ≡ loading (led core heard)
led_is core [] = refl
led_is core (heard ∷ more) = led_is (move core heard).next more

said_is : (o : Option ℕ) → said_all (option_to_list o) ≡ said o
said_is None = refl
said_is (Some key) = refl

dialogue_is : (core : Core) (heard : List Heard) → lead_dialogue loadings (loading core) heard ≡ dialogue core heard
dialogue_is core [] = refl
dialogue_is core (heard ∷ more) =
    ap (λ front. Came heard ∷ (front ++ lead_dialogue loadings (loading (move core heard).next) more)) (said_is (move core heard).key)
    ∙ ap (λ rest. Came heard ∷ (said (move core heard).key ++ rest)) (dialogue_is (move core heard).next more)

news_is : (core : Core) (heard : List Heard) → IsHost core → news_of loadings (loading core) heard ≡ news_between core (led core heard)
news_is core [] host = sym (news_none core core refl refl)
news_is core (heard ∷ more) host =
    ap (λ rest. news_between core (move core heard).next ++ rest) (news_is (move core heard).next more (kept core heard host))
    ∙ sym (news_join core (move core heard).next (led (move core heard).next more) (move_forward core heard host) (led_forward (move core heard).next more (kept core heard host)))

-- ---- what was heard and said

pub core_is : (most : ℕ) (turns : Driving) (before after : SessionTold Kept) (s : LoadSession most turns before after) → turns.new ≡ led turns.old s.heard
core_is most turns before after s = ap (λ l. l.core) (s.host ∙ led_is turns.old s.heard)

all_said : (core : Core) (heard : List Heard) (items : List Item) (given : List Kept) → IsAll loadings (loading core) heard items given → items ≡ dialogue core heard
all_said core heard items given a = a.said_is ∙ dialogue_is core heard

-- the last key is missing where the line failed to send it
unsent_said : (core : Core) (heard : List Heard) (items : List Item) (given : List Kept) → Unsent loadings (loading core) heard items given → LacksKey (dialogue core heard) items
unsent_said core heard items given u =
    subst (λ all. LacksKey all items) (dialogue_is core heard) (unsent_key loadings (λ l heard. (move l.core heard).key) (loading core) heard items given (λ l heard. refl) u)

the_only : {A : Type 0} (o : Option A) → IsSome o → (a : A) × (o ≡ Some a)
the_only None some = absurd (cc)
the_only (Some a) some = (a, refl)

-- and where the keeper failed, since what is given goes with a key
unkept_said : (core : Core) (heard : List Heard) (items : List Item) (given : List Kept) → Unkept loadings (loading core) heard items given → LacksKey (dialogue core heard) items
unkept_said core heard items given u =
    let l = lead_led loadings (loading core) u.first in
    let key = the_only (move l.core u.last).key (with_key l.core u.last u.front u.item u.rest u.news_are) in
    (key.0, sym (dialogue_is core heard) ∙ (unkept_keys loadings (loading core) heard items given u ∙ ap (λ o. items ++ said_all (option_to_list o)) key.1))

said_of : (stop : Option LoadStop) (left : ℕ) (core : Core) (heard : List Heard) (items : List Item) (given : List Kept) → IsDone loadings stop left (loading core) heard items given → IsSaid stop (dialogue core heard) items
said_of None left core heard items given d = all_said core heard items given d.0
said_of (Some (Ended end)) left core heard items given d = all_said core heard items given d
said_of (Some (CutOff TurnsOver)) left core heard items given d = all_said core heard items given d.0
said_of (Some (CutOff (LineFailed fault))) left core heard items given (inl d) = inl (all_said core heard items given d.0)
said_of (Some (CutOff (LineFailed fault))) left core heard items given (inr d) = inr (unsent_said core heard items given d)
said_of (Some (KeepFailed fault)) left core heard items given d = unkept_said core heard items given d

pub session_said : (most : ℕ) (turns : Driving) (before after : SessionTold Kept) (s : LoadSession most turns before after) → IsSaid turns.stop (dialogue turns.old s.heard) s.said
session_said most turns before after s = said_of turns.stop (most - length s.heard) turns.old s.heard s.said s.given s.done

-- ---- what was given

-- a host gives one thing a step, at most
unkept_given : (core : Core) (heard : List Heard) (items : List Item) (given : List Kept) → IsHost core → Unkept loadings (loading core) heard items given → given ≡ news_of loadings (loading core) heard
unkept_given core heard items given host u =
    let l = lead_led loadings (loading core) u.first in
    let at : IsHost l.core = subst (λ (m : Core). IsHost m) (sym (ap (λ l. l.core) (led_is core u.first))) (led_kept core u.first host) in
    let h : HasStep l.core u.last = has_step l.core u.last at in
    let only = only_front h.news u.front u.item u.rest (h.step.news_is ∙ u.news_are) in
    sym (append-nil given) ∙ (ap (λ rest. given ++ rest) (sym only.2) ∙ sym (unkept_news loadings (loading core) heard items given u))

given_of : (stop : Option LoadStop) (left : ℕ) (core : Core) (heard : List Heard) (items : List Item) (given : List Kept) → IsHost core → IsDone loadings stop left (loading core) heard items given →
    given ≡ news_of loadings (loading core) heard
given_of None left core heard items given host d = d.0.given_is
given_of (Some (Ended end)) left core heard items given host d = d.given_is
given_of (Some (CutOff TurnsOver)) left core heard items given host d = d.0.given_is
given_of (Some (CutOff (LineFailed fault))) left core heard items given host (inl d) = d.0.given_is
given_of (Some (CutOff (LineFailed fault))) left core heard items given host (inr d) = d.given_is
given_of (Some (KeepFailed fault)) left core heard items given host d = unkept_given core heard items given host d

pub session_given : (most : ℕ) (turns : Driving) (before after : SessionTold Kept) (s : LoadSession most turns before after) → IsHost turns.old → s.given ≡ news_between turns.old turns.new
session_given most turns before after s host =
    given_of turns.stop (most - length s.heard) turns.old s.heard s.said s.given host s.done
    ∙ (news_is turns.old s.heard host ∙ ap (news_between turns.old) (sym (core_is most turns before after s)))

-- ---- the mark

pub mark_join : (one two : List Item) (first second : List Kept) → (Contains (keys_of one) go → Contains first Go) → (Contains (keys_of two) go → Contains second Go) →
    Contains (keys_of (one ++ two)) go → Contains (first ++ second) Go
mark_join one two first second g h c =
    elim (Contains-append_cases (keys_of one) (keys_of two) go (subst (λ keys. Contains keys go) (keys_join one two) c)) [
      | inl before ↦ Contains-append_left first second Go (g before)
      | inr after ↦ Contains-append_right first second Go (h after)
    ]

pub no_key : (kept : List Kept) → Contains [] go → Contains kept Go
no_key kept (k, low, is) = absurd (omega (arith, low))

go_is : (key : ℕ) → Contains (key ∷ []) go → Some key ≡ Some go
go_is key (zero, low, is) = ap Some (cc)
go_is key (suc k, low, is) = absurd (omega (arith, low))

has_mark : (news : Option Kept) → news ≡ Some Go → Contains (option_to_list news) Go
has_mark news is = subst (λ o. Contains (option_to_list o) Go) (sym is) (0, omega arith, refl)

-- where the key is `G`, the mark is given
marked_first : (key : Option ℕ) (news : Option Kept) → (key ≡ Some go → news ≡ Some Go) → Contains (keys_of (said key)) go → Contains (option_to_list news) Go
marked_first None news with_start c = no_key (option_to_list news) c
marked_first (Some key) news with_start c = has_mark news (with_start (go_is key c))

-- wherever `G` is said, it is given
marks : (core : Core) (heard : List Heard) → IsHost core → Contains (keys_of (dialogue core heard)) go → Contains (news_of loadings (loading core) heard) Go
marks core [] host c = no_key [] c
marks core (heard ∷ more) host c =
    let h : HasStep core heard = has_step core heard host in
    mark_join (said (move core heard).key) (dialogue (move core heard).next more) (news_between core (move core heard).next) (news_of loadings (loading (move core heard).next) more)
    (λ one. subst (λ l. Contains l Go) h.step.news_is (marked_first (move core heard).key h.news h.step.with_start one))
    (marks (move core heard).next more (kept core heard host)) c

but_last : {A : Type 0} (xs ys : List A) (x y : A) → xs ++ x ∷ [] ≡ ys ++ y ∷ [] → xs ≡ ys
but_last [] [] x y e = refl
but_last [] (b ∷ ys) x y e = absurd (omega (arith, ap length e, length-append ys (y ∷ [])))
but_last (a ∷ xs) [] x y e = absurd (omega (arith, ap length e, length-append xs (x ∷ [])))
but_last (a ∷ xs) (b ∷ ys) x y e =
    let heads : a ≡ b = cc in
    let tails : xs ≡ ys = but_last xs ys x y (cc) in
    ap (λ h. h ∷ xs) heads ∙ ap (λ t. b ∷ t) tails

keys_front : (one two : List Item) → Contains (keys_of one) go → Contains (keys_of (one ++ two)) go
keys_front one two c = subst (λ keys. Contains keys go) (sym (keys_join one two)) (Contains-append_left (keys_of one) (keys_of two) go c)

-- what was said without the last thing that was heard
keys_heard : (items : List Item) (heard : Heard) → Contains (keys_of (items ++ Came heard ∷ [])) go → Contains (keys_of items) go
keys_heard items heard c = subst (λ keys. Contains keys go) (keys_join items (Came heard ∷ []) ∙ append-nil (keys_of items)) c

in_all : (core : Core) (heard : List Heard) (items : List Item) → IsHost core → Contains (keys_of items) go → (items ≡ dialogue core heard) ⊎ LacksKey (dialogue core heard) items → Contains (news_of loadings (loading core) heard) Go
in_all core heard items host c (inl is) = marks core heard host (subst (λ list. Contains (keys_of list) go) is c)
in_all core heard items host c (inr (key, is)) = marks core heard host (subst (λ list. Contains (keys_of list) go) (sym is) (keys_front items (Sent key ∷ []) c))

kept_all : (core : Core) (heard : List Heard) (given kept : List Kept) → given ≡ news_of loadings (loading core) heard → kept ≡ given → Contains (news_of loadings (loading core) heard) Go → Contains kept Go
kept_all core heard given kept is same c = subst (λ list. Contains list Go) (sym (same ∙ is)) c

unkept_mark : (core : Core) (heard : List Heard) (items : List Item) (given kept : List Kept) → IsHost core → Unkept loadings (loading core) heard items given → LacksLast given kept → Contains (keys_of items) go → Contains kept Go
unkept_mark core heard items given kept host u (last, is) c =
    let said : items ≡ dialogue core u.first ++ Came u.last ∷ [] = u.said_is ∙ ap (λ front. front ++ Came u.last ∷ []) (dialogue_is core u.first) in
    let first = marks core u.first host (keys_heard (dialogue core u.first) u.last (subst (λ list. Contains (keys_of list) go) said c)) in
    let news = news_of loadings (loading core) u.first in
    let same : kept ≡ news ++ u.front = but_last kept (news ++ u.front) last u.item (sym is ∙ (u.given_is ∙ sym (append_assoc news u.front (u.item ∷ [])))) in
    subst (λ list. Contains list Go) (sym same) (Contains-append_left news u.front Go first)

mark_of : (stop : Option LoadStop) (left : ℕ) (core : Core) (heard : List Heard) (items : List Item) (given kept : List Kept) → IsHost core → IsDone loadings stop left (loading core) heard items given →
    AllOrFront (keep_fault stop) (kept ≡ given) (LacksLast given kept) → Contains (keys_of items) go → Contains kept Go
mark_of None left core heard items given kept host d k c = kept_all core heard given kept d.0.given_is k (in_all core heard items host c (inl (all_said core heard items given d.0)))
mark_of (Some (Ended end)) left core heard items given kept host d k c = kept_all core heard given kept d.given_is k (in_all core heard items host c (inl (all_said core heard items given d)))
mark_of (Some (CutOff TurnsOver)) left core heard items given kept host d k c = kept_all core heard given kept d.0.given_is k (in_all core heard items host c (inl (all_said core heard items given d.0)))
mark_of (Some (CutOff (LineFailed fault))) left core heard items given kept host (inl d) k c = kept_all core heard given kept d.0.given_is k (in_all core heard items host c (inl (all_said core heard items given d.0)))
mark_of (Some (CutOff (LineFailed fault))) left core heard items given kept host (inr d) k c = kept_all core heard given kept d.given_is k (in_all core heard items host c (inr (unsent_said core heard items given d)))
mark_of (Some (KeepFailed fault)) left core heard items given kept host d k c = unkept_mark core heard items given kept host d k c

-- where `G` was said, the mark was kept
pub session_mark : (most : ℕ) (turns : Driving) (before after : SessionTold Kept) (s : LoadSession most turns before after) → IsHost turns.old → Contains (keys_of s.said) go → Contains s.kept Go
session_mark most turns before after s host c = mark_of turns.stop (most - length s.heard) turns.old s.heard s.said s.given s.kept host s.done s.news c

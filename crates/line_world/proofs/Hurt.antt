-- Hear keeps the invariant in the exchange in which a character was changed.
use Rattle.std.proofs.Common.{◌≡◌, ℕ, ◌+◌, ◌-◌, ◌*◌, ◌%◌, ◌<◌, ◌≤◌, Bool, true, false, eqb, not, ◌&&◌, List, [], ◌∷◌, length, inl, inr, refl, arith, ap, sym, subst, ◌∙◌}
use Rattle.std.proofs.lemmas.Bool.Decides.{nat_tests}
use Rattle.octal.specs.Octal.{digit_of}
use Rattle.tape_image.specs.Memory.{top_of}
use Rattle.tape_image.specs.Word.{WordValue, merged}
use Rattle.odt_machine.specs.declared.mode.Mode.{Mode}
use Rattle.odt_machine.specs.declared.mode.Mode.TheVariants.{Opened}
use Rattle.odt_machine.specs.Machine.{Machine, IsMachine, ModeFits, is_word}
use Rattle.host_core.specs.declared.phase.Try.{Try}
use Rattle.host_core.specs.declared.phase.Try.TheVariants.{Only, First, Second}
use Rattle.host_core.specs.declared.phase.Visit.{Visit}
use Rattle.host_core.specs.declared.phase.Visit.TheVariants.{Look, Again, Check}
use Rattle.host_core.specs.declared.phase.Reason.{Reason}
use Rattle.host_core.specs.declared.phase.Reason.TheVariants.{Store, Reopen, Missing, Close}
use Rattle.host_core.specs.declared.phase.Phase.{Phase}
use Rattle.host_core.specs.declared.phase.Phase.TheVariants.{Settle, Sync, Address, Slash, Before, Value, Deposit, Return, Start, Go, Ended}
use Rattle.host_core.specs.declared.turn.Turn.{Turn}
use Rattle.host_core.specs.declared.turn.Turn.TheVariants.{Key, Mark}
use Rattle.host_core.specs.Core.{Core}
use Rattle.host_core.specs.Host.{PhaseFits, TryFits, VisitFits, IsPlace, basis_of}
use Rattle.host_core.specs.Console.{resynchronise_of}
use Rattle.host_core.specs.PhaseTable.{hears, synced, sync_hears, echoed, address_hears, slash_hears, absent, reads, read, looked, looked_again, checked, differs, mends, before_hears, value_hears, deposit_hears, returned, returns, return_hears, start_hears}
use Rattle.host_core.proofs.Replies.{either, refusal_walk, return_walk, echo_walk, start_walk as reading_start_walk, rest_walk}
use Rattle.host_core.proofs.Walk.{go_walk}
use Rattle.line_world.specs.Scene.{Toll}
use Rattle.line_world.specs.Site.{Site, site, held_number, wanted, number_mode, typing_mode}
use Rattle.line_world.specs.Pending.{Fits as MeetsKey, IsOpened, Turned, StoodWhere, Stood, Known, Facts}
use Rattle.line_world.specs.Struck.{Goes, Fine, Sound, Attempt}
use Rattle.line_world.proofs.Frame.{scene, TurnFits}
use Rattle.line_world.proofs.Rows.{IsSite}
use Rattle.line_world.proofs.Ways.{equal}
use Rattle.line_world.proofs.Hearing.{IsAnswered}

-- where the tape gives the whole word, nothing hangs on what was there
merged_whole : (w : WordValue) (a b : ℕ) → w.mask ≡ 65535 → merged w a ≡ merged w b
merged_whole w a b e = rw e refl

whole_mask : (a b : Bool) → (a && b) ≡ true → a ≡ true
whole_mask true b e = refl
whole_mask false b e = absurd (cc)

same_number : (a b : ℕ) → not (eqb a b) ≡ false → a ≡ b
same_number a b e = grind (arith, nat_tests)

weaker : (visit : Visit) (t : Site) → Known false visit t → Known true visit t
weaker Look t h = tt
weaker (Again r) t h = tt
weaker (Check Only x) t h = (tt, h.1, h.2)
weaker (Check First x) t h = (tt, h.1, tt)
weaker (Check (Second before) x) t h = (tt, h.1, h.2)

opened_lies : (memory : List ℕ) (mode : Mode) (a : ℕ) → ModeFits memory mode → mode ≡ Opened a → is_word memory a ≡ true
opened_lies memory mode a fits is = subst (ModeFits memory) is fits

opened_is : (mode : Mode) (a : ℕ) → mode ≡ Opened a → IsOpened mode
opened_is mode a e = subst IsOpened (sym e) tt

-- a careful host, in whose attempt a character was changed for the first time: its first deposit is on its way
stood_first : (deposit : Try) (careful : Bool) (t : Site) → careful ≡ true → TryFits deposit careful → Turned false deposit → Stood true deposit t
stood_first Only careful t care fits turned = absurd (cc)
stood_first First careful t care fits turned = tt
stood_first (Second before) careful t care fits turned = absurd turned

stood_none : (deposit : Try) (t : Site) → StoodWhere true deposit [] t
stood_none Only t = tt
stood_none First t = tt
stood_none (Second before) t = tt

-- nothing is known of a value that was never deposited
missing_top : (memory : List ℕ) (a b : ℕ) → b % 2 ≡ 0 → a ≡ b → is_word memory b ≡ false → top_of memory ≤ a
missing_top memory a b even same e = grind (arith, nat_tests)

same_place : (k : ℕ) → k ≡ k + 1 - 1
same_place k = omega arith

last_place : (k : ℕ) → IsPlace k → 6 ≤ k → k ≡ 6
last_place k place all = let to = place.to in omega arith

module _ (m : Machine) (core : Core) (c : ℕ) (u : List ℕ) (n : ℕ) (due : core.spent < n) (machine : IsMachine m) (care : core.careful ≡ true) where
  abbrev lost : Toll
  lost = record { count = n; hurt = true }

  abbrev here : Site
  here = site (scene m core [] (c ∷ u) lost)

  -- so the host goes
  abbrev G : Phase → Turn → Type 0
  G phase turn = Goes here m.mode phase u (λ next. Fine here m.mode next u) turn

  abbrev Fits : Turn → Type 0
  Fits turn = TurnFits m core u lost turn

  -- the next phase, nothing sent
  go_on : (next : Phase) → Sound next here → Fine here m.mode next u → Attempt true next here m.mode [] u core.spent n
  go_on next facts fine = (due, inr (record { way = fine; facts = facts }))

  -- a key goes down: the change lies behind
  key_down : (next : Phase) (key : ℕ) → Facts true next here [] → MeetsKey next here m.mode key → Attempt true next here m.mode (key ∷ []) [] core.spent n
  key_down next key facts fits = (due, inl (record { key = fits; rest = tt; paid = tt; facts = facts }))

  sync_goes : (k : ℕ) → G (Sync k) (sync_hears core.careful k c) → Fits (sync_hears core.careful k c)
  sync_goes k =
      refusal_walk (λ r. G (Sync k) (synced r) → Fits (synced r)) (resynchronise_of core.careful) k c (λ g. due) (λ i le g. go_on (Sync i) tt g) (λ e g. (g.0, (λ _. due), g.1))

  address_goes : (visit : Visit) (k : ℕ) → IsPlace k → Known false visit here → G (Address visit k) (address_hears here.word.address visit k c) → Fits (address_hears here.word.address visit k c)
  address_goes visit k place known =
      let a = here.word.address in
      let turn : _ → Turn = λ e. echoed e (Address visit (k + 1)) (Key 47 (Slash visit)) in
      echo_walk (λ e. G (Address visit k) (turn e) → Fits (turn e)) a k c (λ g. due)
      (λ e less g. (g.0, key_down (Address visit (k + 1)) (digit_of a (k + 1)) (weaker visit here known) (refl, g.1 ∙ ap (number_mode a) (same_place k))))
      (λ e all g. (g.0, key_down (Slash visit) 47 (weaker visit here known) (refl, g.1 ∙ ap (number_mode a) (last_place k place all))))

  slash_goes : (visit : Visit) → Known false visit here → G (Slash visit) (slash_hears visit c) → Fits (slash_hears visit c)
  slash_goes visit known = either (λ t. G (Slash visit) t → Fits t) (eqb c 47) _ _ (λ e g. go_on (Before visit) known g) (λ e g. due)

  before_goes : (visit : Visit) → Known false visit here → G (Before visit) (before_hears core.careful here.word visit c) → Fits (before_hears core.careful here.word visit c)
  before_goes visit known =
      reading_start_walk (λ r. G (Before visit) (reads core.careful here.word visit r) → Fits (reads core.careful here.word visit r)) c (λ g. due) (λ g. go_on (Value visit 0 0) known g)
      (absent_goes core.careful care)
      (λ low high g. go_on (Value visit (c - 48) 1) known g)
    where
      absent_goes : (careful : Bool) → careful ≡ true → G (Before visit) (absent careful here.word.address) → Fits (absent careful here.word.address)
      absent_goes true is g = go_on (Return (Missing here.word.address) 0) tt g
      absent_goes false is g = absurd (cc)

  -- a value goes down once or once more
  mends_goes : (visit : Visit) (v j : ℕ) (deposit : Try) (x : ℕ) → x ≡ wanted here → G (Value visit v j) (mends deposit x) → Fits (mends deposit x)
  mends_goes visit v j deposit x is g = (g.0, key_down (Deposit deposit x 1) (digit_of x 1) (tt, opened_lies m.memory m.mode _ machine.mode g.1, is) (refl, g.1))

  look_goes : (v j : ℕ) (careful : Bool) → careful ≡ true → G (Value Look v j) (looked careful here.word v) → Fits (looked careful here.word v)
  look_goes v j false is = λ g. absurd (cc)
  look_goes v j true is =
      let x = merged here.word v in
      either (λ t. G (Value Look v j) t → Fits t) (eqb here.word.mask 65535 && not (eqb x v)) _ _
      (λ e. mends_goes Look v j First x (merged_whole here.word v (held_number here) (equal here.word.mask 65535 (whole_mask _ _ e))))
      (λ e g. (g.0, key_down (Return (Reopen v) 0) 13 tt (refl, refl, opened_is m.mode _ g.1)))

  again_goes : (first v j : ℕ) → Known false (Again first) here → G (Value (Again first) v j) (looked_again here.word first v) → Fits (looked_again here.word first v)
  again_goes first v j known =
      let x = merged here.word v in
      either (λ t. G (Value (Again first) v j) t → Fits t) (not (eqb v first)) _ _ (λ e g. due)
      (λ e. let is : v ≡ held_number here = same_number v first e ∙ known in
      either (λ t. G (Value (Again first) v j) t → Fits t) (eqb x v) _ _
      (λ same g. (g.0, (opened_lies m.memory m.mode _ machine.mode g.1, ap (merged here.word) (sym is) ∙ equal x v same ∙ is), opened_is m.mode _ g.1))
      (λ other. mends_goes (Again first) v j First x (ap (merged here.word) is)))

  differs_goes : (deposit : Try) (x v j : ℕ) → TryFits deposit core.careful → Known false (Check deposit x) here → G (Value (Check deposit x) v j) (differs here.word deposit x v) → Fits (differs here.word deposit x v)
  differs_goes Only x v j fits known g = absurd (cc)
  differs_goes First x v j fits known g = mends_goes (Check First x) v j (Second v) x known.1 g
  differs_goes (Second before) x v j fits known g = absurd known.0

  check_goes : (deposit : Try) (x v j : ℕ) → TryFits deposit core.careful → Known false (Check deposit x) here → G (Value (Check deposit x) v j) (checked here.word deposit x v) → Fits (checked here.word deposit x v)
  check_goes deposit x v j fits known =
      either (λ t. G (Value (Check deposit x) v j) t → Fits t) (eqb (merged here.word v) v) _ _
      (λ same g. (g.0, known.2, opened_is m.mode _ g.1))
      (λ other. differs_goes deposit x v j fits known)

  -- a whole reading: it may be any number
  read_goes : (visit : Visit) (v j : ℕ) → VisitFits visit core.careful → Known false visit here → G (Value visit v j) (read core.careful here.word visit v) → Fits (read core.careful here.word visit v)
  read_goes Look v j fits known = look_goes v j core.careful care
  read_goes (Again first) v j fits known = again_goes first v j known
  read_goes (Check deposit x) v j fits known = check_goes deposit x v j fits.0 known

  value_goes : (visit : Visit) (v j : ℕ) → VisitFits visit core.careful → Known false visit here → G (Value visit v j) (value_hears core.careful here.word visit v j c) → Fits (value_hears core.careful here.word visit v j c)
  value_goes visit v j fits known =
      rest_walk (λ r. G (Value visit v j) (reads core.careful here.word visit r) → Fits (reads core.careful here.word visit r)) v j c (λ g. due)
      (λ z low high g. go_on (Value visit (c - 48) 1) known g)
      (λ some less digit g. go_on (Value visit (8 * v + (c - 48)) (j + 1)) known g)
      (λ all blank. read_goes visit v j fits known)

  deposit_goes : (end : Try) (x k : ℕ) → IsPlace k → Sound (Deposit end x k) here → G (Deposit end x k) (deposit_hears end x k c) → Fits (deposit_hears end x k c)
  deposit_goes end x k place known =
      let a = here.word.address in
      let turn : _ → Turn = λ e. echoed e (Deposit end x (k + 1)) (Key 13 (Return (Store end x) 0)) in
      echo_walk (λ e. G (Deposit end x k) (turn e) → Fits (turn e)) x k c (λ g. due)
      (λ e less g. (g.0, key_down (Deposit end x (k + 1)) (digit_of x (k + 1)) (tt, known.1, known.2) (refl, g.1 ∙ ap (typing_mode a x) (same_place k))))
      (λ e all g. (g.0, key_down (Return (Store end x) 0) 13 (tt, known.2, stood_none end here) (refl, refl, g.1 ∙ ap (typing_mode a x) (last_place k place all) ∙ ap (λ y. typing_mode a y 6) known.2)))

  returned_goes : (why : Reason) (k : ℕ) → IsSite here → PhaseFits (Return why k) (basis_of core) → Sound (Return why k) here → G (Return why k) (returned why) → Fits (returned why)
  returned_goes (Store deposit x) k numbers fits known g = (g.0, (tt, known.1, stood_first deposit core.careful here care fits.3 known.0), (λ _. due), g.1)
  returned_goes (Reopen r) k numbers fits known g = (g.0, tt, (λ _. due), g.1)
  returned_goes (Missing a) k numbers fits known g = missing_top m.memory a here.word.address numbers.even fits.0.1 g
  returned_goes Close k numbers fits known g = (g.0, (λ _. due), g.1)

  return_on : (why : Reason) (k i : ℕ) → Sound (Return why k) here → Sound (Return why i) here
  return_on (Store deposit x) k i known = known
  return_on (Reopen r) k i known = tt
  return_on (Missing a) k i known = tt
  return_on Close k i known = tt

  return_goes : (why : Reason) (k : ℕ) → IsSite here → PhaseFits (Return why k) (basis_of core) → Sound (Return why k) here → G (Return why k) (return_hears why k c) → Fits (return_hears why k c)
  return_goes why k numbers fits known =
      return_walk (λ r. G (Return why k) (returns why r) → Fits (returns why r)) k c (λ g. due) (λ i le g. go_on (Return why i) (return_on why k i known) g) (λ e g. returned_goes why k numbers fits known g)

  start_goes : (k : ℕ) → IsPlace k → core.verified ≡ length core.plan.words → G (Start k) (start_hears here.start k c) → Fits (start_hears here.start k c)
  start_goes k place all_there =
      let s = here.start in
      let turn : _ → Turn = λ e. echoed e (Start (k + 1)) Mark in
      echo_walk (λ e. G (Start k) (turn e) → Fits (turn e)) s k c (λ g. due)
      (λ e less g. (g.0, key_down (Start (k + 1)) (digit_of s (k + 1)) tt (refl, g.1 ∙ ap (number_mode s) (same_place k))))
      (λ e all g. (g.0, all_there, (λ _. due), g.1 ∙ ap (number_mode s) (last_place k place all)))

  pub hears_goes : (phase : Phase) → IsSite here → PhaseFits phase (basis_of core) → Sound phase here → IsAnswered phase → G phase (hears core.careful here.word here.start phase c) → Fits (hears core.careful here.word here.start phase c)
  hears_goes Settle numbers fits known answered g = absurd answered
  hears_goes (Sync k) numbers fits known answered g = sync_goes k g
  hears_goes (Address visit k) numbers fits known answered g = address_goes visit k fits.1 known g
  hears_goes (Slash visit) numbers fits known answered g = slash_goes visit known g
  hears_goes (Before visit) numbers fits known answered g = before_goes visit known g
  hears_goes (Value visit v j) numbers fits known answered g = value_goes visit v j fits.3 known g
  hears_goes (Deposit end x k) numbers fits known answered g = deposit_goes end x k fits.1 known g
  hears_goes (Return why k) numbers fits known answered g = return_goes why k numbers fits known g
  hears_goes (Start k) numbers fits known answered g = start_goes k fits.1 fits.0.all g
  hears_goes Go numbers fits known answered g = go_walk Fits c tt due
  hears_goes (Ended end) numbers fits known answered g = absurd answered

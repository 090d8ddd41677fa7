-- An open comes to its synchronization site: it is held there until the group starts, and its storage site is asked or it is answered
-- once it has.
use Rattle.std.proofs.Common.{◌≡◌, ℕ, ◌≤◌, ◌⊎◌, Bool, true, false, ◌||◌, cond, nat_lt, List, [], ◌∷◌, ◌++◌, map, Option, Some, None, refl, sym, ◌∙◌, ap, subst, inl, inr}
use Rattle.std.specs.List.{list_any}
use Rattle.std.specs.Option.{is_some}
use Rattle.role_steps.proofs.of_plain_facts.Tests.{true_false}
use Rattle.locus_ids.specs.declared.config.Config.{Config}
use Rattle.locus_ids.specs.declared.ids.EpochId.{EpochId}
use Rattle.locus_ids.specs.declared.ids.FileId.{FileId}
use Rattle.locus_ids.specs.declared.ids.Serial.{Serial}
use Rattle.locus_ids.specs.Sizes.{sites_max}
use Rattle.schedule_lines.specs.declared.line.ScheduleLine.{ScheduleLine}
use Rattle.wire_messages.specs.Bodies.{kind_number}
use Rattle.wire_messages.specs.declared.body.Body.{Body}
use Rattle.wire_messages.specs.declared.body.Body.TheVariants as body
use Rattle.wire_messages.specs.declared.body.Opening.{Opening}
use Rattle.wire_messages.specs.declared.body.OpenedAs.{OpenedAs}
use Rattle.wire_messages.specs.declared.packet.Packet.{Packet}
use Rattle.role_steps.specs.Adoption.{table_group}
use Rattle.role_steps.specs.Opens.{OpenRequest, open_key, open_row, takes_open}
use Rattle.role_steps.specs.Reports.{is_early_of, on_open, waits_early}
use Rattle.role_steps.specs.Tables.{row, with_row}
use Rattle.role_steps.specs.Views.{Frame, SiteView, Outcome, boot_in, quiet, serial_key, sync_site}
use Rattle.role_steps.specs.declared.rounds.InEpoch.{InEpoch}
use Rattle.role_steps.specs.declared.synchronizing.Early.{Early}
use Rattle.role_steps.specs.declared.synchronizing.OpenRow.{OpenRow}
use Rattle.role_steps.specs.declared.synchronizing.OpenStage.TheVariants as stage
use Rattle.role_steps.specs.declared.synchronizing.SyncTable.{SyncTable}
use Rattle.role_steps.specs.declared.users.Asking.{Asking}
use Rattle.role_steps.specs.declared.users.Asking.TheVariants as asking
use Rattle.role_steps.specs.declared.users.WaitingCall.{WaitingCall}
use Rattle.role_steps.proofs.Rows.{row_same}
use Rattle.the_run.specs.Kept.{Among}
use Rattle.the_run.specs.Steps.{at_table_of, is_opened_in, takes_inside}
use Rattle.the_run.specs.Worlds.{World, Running, place_at}
use Rattle.run_laws.specs.Epochs.Forming.{FormsNone}
use Rattle.run_laws.specs.Epochs.Known.{Places}
use Rattle.tree_laws.specs.Packets.{BodyFact, OpenFact, PacketFact}
use Rattle.tree_laws.specs.Users.{WaitingFact}
use Rattle.store_laws.specs.OneTree.Places.{InsideFact}
use Rattle.store_laws.specs.OneTree.Rest.{Past}
use Rattle.store_laws.proofs.OneTree.Inside.{table_here}
use Rattle.store_laws.proofs.OneTree.Parts.{tables_rise}
use Rattle.store_laws.proofs.OneTree.Rising.{Rising}
use Rattle.row_laws.specs.Orderly.Calm.{AreTogether}
use Rattle.row_laws.proofs.Orderly.Formed.{among_right}
use Rattle.row_laws.proofs.Orderly.Rounds.{next_among}
use Rattle.calm_laws.specs.TablesCalm.Shapes.{CameIn, IsNamedIn}
use Rattle.calm_laws.specs.Carrying.{IsMember, frame_of, Goes, IsAsked, held_request, open_body, opening_body, own_serial, AnswersOpen, CarriesOpen, Carries, IsHeld}
use Rattle.calm_laws.specs.Rounds.{CarriesOn, IsInRound, IsOpen}
use Rattle.calm_laws.proofs.Carriers.{of_kind, MayCarry, carrier_kind}
use Rattle.calm_laws.proofs.CloseAgreed.{came_fact, member_low, past_of}
use Rattle.calm_laws.proofs.Delivered.{inside_fact}
use Rattle.calm_laws.proofs.Ends.{handles}
use Rattle.calm_laws.proofs.Facts.{RoundFacts, round_facts}
use Rattle.calm_laws.proofs.Handing.{StillWaits, IsHandedOn}
use Rattle.calm_laws.proofs.Keeping.{AllKeep, one_keeps, roles_itself, carries_kept, held_kept, reported_kept}
use Rattle.calm_laws.proofs.Lists.{every_among, row_key}
use Rattle.calm_laws.proofs.Rows.{AllGoToMembers, TriesNone, taker, placed, placed_here, placed_other, handler_row}
use Rattle.calm_laws.proofs.TableThere.{table_there}
use Rattle.calm_laws.proofs.CalmAnswerCameIn.{came_in}
use Rattle.calm_laws.proofs.CalmAnswerOpenTaken.{AsksStorage, OpensOn, opened_in, open_grows, open_taken, row_some, wait_grows}
use Rattle.calm_laws.proofs.CalmAnswerOpensKnown.{IsTable, its_fact, open_held, opened_here, opened_row, row_well, HasRow}
use Rattle.calm_laws.proofs.CalmAnswerShapes.{shape_of}
use Rattle.calm_laws.proofs.CalmAnswerTurning.{Grows, IsIn, TurnKeeps, asked_there, one_table, turn_hands, turn_keeps}

-- ---- a site that does nothing ----

pub quiet_keeps : (c : Config) (e : InEpoch) (m : ℕ) (at : Places) (v : SiteView) (group : ℕ) (hand : Early → Type 0) → at m ≡ Some (Running v) → TurnKeeps c e m at v group hand (quiet v)
quiet_keeps c e m at v group hand was = record {
  boot = refl;
  round = refl;
  epoch = refl;
  users = refl;
  carries = λ s y a q g. carries_kept c e at (placed at m v) s y a q keep g;
  holds = λ s y a g. inl (held_kept c e at (placed at m v) s y a keep g);
  reported = λ css j s member g. reported_kept e at (placed at m v) css j s keep member g;
}
  where
    keep : AllKeep e at (placed at m v)
    keep = one_keeps e m at (placed at m v) v v was (placed_here at m v) (placed_other at m v) (roles_itself v)

-- ---- the tables of a site ----

-- all of them are as the trace has them
pub tables_of : (c : Config) (lines : List ScheduleLine) (n : ℕ) (w : World) → (round : IsInRound c lines n w) → (e : InEpoch) (m : ℕ) (v : SiteView) → AreTogether w e → IsMember e m → place_at w m ≡ Some (Running v) → (t : SyncTable) → Among t v.tables → IsTable c w.trace (past_of c w (round_facts c lines n w round)) e m w.sent t
tables_of c lines n w round e m v together member here t there = record {
  fact = (table_here c w.trace (frame_of c e m) v (inside_fact c e w m v (round_facts c lines n w round).fact together member here) t there).fact;
  shape = shape_of c lines n w round e m v t together member here there;
}

abbrev pub none_hand : Early → Type 0
none_hand x = ⊥

module _ (c : Config) (w : World) (past : Past c w.trace) (e : InEpoch) (m : ℕ) (v : SiteView) (rise : Rising (map table_group v.tables)) (tables : (t : SyncTable) → Among t v.tables → IsTable c w.trace past e m w.sent t) (t : SyncTable) (there : Among t v.tables) where
  module _ (us serial number process request : ℕ) (file : FileId) (q : Opening) (fact : OpenFact c w.trace e.id us serial number process request file q) (group : t.group ≡ file.group) where
    -- no other table of the site has the instance
    pub open_alone : (k : SyncTable) → Among k v.tables → (k.group ≡ t.group → ⊥) → is_opened_in (own_serial us serial) k ≡ false
    open_alone k a apart = over (is_opened_in (own_serial us serial) k) refl
      where
        over : (b : Bool) → is_opened_in (own_serial us serial) k ≡ b → is_opened_in (own_serial us serial) k ≡ false
        over true h = absurd (apart (sym (opened_here c w.trace past e m us serial number process request file q fact w.sent k (tables k a) h) ∙ sym group))
        over false h = h

    -- where some table has it, this one does
    pub open_known : IsIn v.tables (own_serial us serial) → is_some (open_row t (own_serial us serial)) ≡ true
    open_known k = row_some (serial_key (own_serial us serial)) r.row t.opens r.there (ap (λ (i : Serial). serial_key i) r.name)
      where
        same : k.0 ≡ t
        same = one_table v.tables k.0 t rise k.1 there (sym (opened_here c w.trace past e m us serial number process request file q fact w.sent k.0 (tables k.0 k.1) k.2) ∙ sym group)

        r : HasRow (own_serial us serial) t
        r = opened_row (own_serial us serial) t (subst (λ (z : SyncTable). is_opened_in (own_serial us serial) z ≡ true) same k.2)

-- ---- which calls it carries ----

only_opens : (a : Asking) (b : Body) → IsOpen b → MayCarry a b → (serial : ℕ) × (file : FileId) × (q : Opening) × (a ≡ asking.Open serial file q)
only_opens (asking.Open serial file q) b k h = (serial, file, q, refl)
only_opens (asking.Look file w take) (body.Open number call process request f way) k h = absurd h
only_opens (asking.Look file w take) _ k h = absurd k
only_opens (asking.Op serial ss n o seen) (body.Open number call process request f way) k h = absurd h
only_opens (asking.Op serial ss n o seen) _ k h = absurd k
only_opens (asking.Close serial ss) (body.Open number call process request f way) k h = absurd h
only_opens (asking.Close serial ss) _ k h = absurd k

no_open : (a : Asking) (b : Body) → IsOpen b → MayCarry a b → ((serial : ℕ) (f : FileId) (q : Opening) → a ≡ asking.Open serial f q → ⊥) → ⊥
no_open a b k h differs = (let r : (serial : ℕ) × (f : FileId) × (q : Opening) × (a ≡ asking.Open serial f q) = only_opens a b k h in differs r.0 r.1 r.2 r.3)

-- the request itself comes
comes : (c : Config) (e : InEpoch) (at : Places) (s : ℕ) (y : WaitingCall) (serial : ℕ) (file : FileId) (q : Opening) (css : ℕ) (p : Packet) → IsOpen p.body → CarriesOpen c e at s y serial file q css p → Goes c e s css (open_body y serial file q) p
comes c e at s y serial file q css p k (inl g) = g
comes c e at s y serial file q css p k (inr (inl h)) = absurd (over h.way)
  where
    over : Goes c e css h.opened.ss (opening_body h.opened) p ⊎ ((a : OpenedAs) × Goes c e h.opened.ss css (body.Opened (own_serial s serial) a) p) → ⊥
    over (inl g) = of_kind IsOpen c e css h.opened.ss (opening_body h.opened) p k g
    over (inr g) = of_kind IsOpen c e h.opened.ss css (body.Opened (own_serial s serial) g.0) p k g.1
comes c e at s y serial file q css p k (inr (inr h)) = absurd (of_kind IsOpen c e css s (body.OpenDone serial h.answer) p k h.goes)

abbrev Carried : Config → InEpoch → Places → ℕ → WaitingCall → Asking → List Packet → Type 0
Carried c e now s y a sent = ((q : Packet) × Among q sent × Carries c e now s y a q) ⊎ IsHeld c e now s y a

-- what a table hands on, its site does
pub opens_lift : (c : Config) (e : InEpoch) (css : ℕ) (now : Places) (s : ℕ) (y : WaitingCall) (serial : ℕ) (file : FileId) (q : Opening) (n : SyncTable) (sent : List Packet) → sync_site c e.members file.group ≡ Some css →
    ((r : OpenRow) → open_row n (own_serial s serial) ≡ Some r → is_opened_in (own_serial s serial) n ≡ true → r.stage ≡ stage.Asked → IsAsked now css (own_serial s serial) r) → OpensOn c e css s serial n sent → (p : Packet) × Among p sent × Carries c e now s y (asking.Open serial file q) p
opens_lift c e css now s y serial file q n sent sync there h = (h.letter, h.there, (css, sync, over h.carries))
  where
    over : AnswersOpen c e s serial css h.letter ⊎ AsksStorage c e css (own_serial s serial) n h.letter → CarriesOpen c e now s y serial file q css h.letter
    over (inl a) = inr (inr a)
    over (inr a) = inr (inl (record { opened = a.row; asked = there a.row a.found (opened_in (own_serial s serial) a.row n.opens (row_key open_key (serial_key (own_serial s serial)) n.opens a.row a.found).0 a.name) a.asked; way = inl a.goes }))

-- ---- at the view of the synchronization site ----

module _ (c : Config) (w : World) (past : Past c w.trace) (e : InEpoch) (v : SiteView) (s css : ℕ) (y : WaitingCall) (serial : ℕ) (file : FileId) (q : Opening) (was : place_at w css ≡ Some (Running v)) (own : IsMember e css) (member : IsMember e s) (low : s ≤ sites_max) (sync : sync_site c e.members file.group ≡ Some css) (is : y.asking ≡ asking.Open serial file q) (k : WaitingFact c w.trace (frame_of c e s) y) (rise : Rising (map table_group v.tables)) (tables : (t : SyncTable) → Among t v.tables → IsTable c w.trace past e css w.sent t) (t : SyncTable) (found : row table_group file.group v.tables ≡ Some t) where
  abbrev f : Frame
  f = frame_of c e css

  abbrev o : OpenRequest
  o = record { serial = serial; call = y.call; process = y.process; request = y.request; file = file; how = q }

  abbrev h : SyncTable → Outcome SyncTable
  h = on_open (frame_of c e css) s (record { serial = serial; call = y.call; process = y.process; request = y.request; file = file; how = q })

  at : Among t v.tables × (table_group t ≡ file.group)
  at = row_key table_group file.group v.tables t found

  fact : OpenFact c w.trace e.id s serial y.call y.process y.request file q
  fact = its_fact c w.trace past e css s y k serial file q is sync

  grows : Grows (IsIn v.tables) none_hand t (h t).view
  grows = over t.started refl
    where
      over : (b : Bool) → t.started ≡ b → Grows (IsIn v.tables) none_hand t (elim b as (λ (z : Bool). Outcome SyncTable) [ true ↦ takes_open f s o t | false ↦ quiet (waits_early s y.process (open_body y serial file q) t) ]).view
      over true z = open_grows (IsIn v.tables) none_hand f s o t z (open_known c w past e css v rise tables t at.0 s serial y.call y.process y.request file q fact at.1)
      over false z = wait_grows (IsIn v.tables) none_hand s y.process (open_body y serial file q) t

  abbrev now : Places
  now = placed (place_at w) css (at_table_of h (Some t) v).view

  -- before the start it is held
  waits : t.started ≡ false → (b : Bool) → list_any (is_early_of s y.process) t.early ≡ b → Among (held_request s y.process (open_body y serial file q)) (cond b t (record t { early = t.early ++ held_request s y.process (open_body y serial file q) ∷ [] })).early
  waits z true e_is = (let x : (x : Early) × Among x t.early × (is_early_of s y.process x ≡ true) = some_early (is_early_of s y.process) t.early e_is in subst (λ (z : Early). Among z t.early) (open_held c w.trace past e css s y k serial file q is w.sent t (tables t at.0) at.1 x.0 x.1 x.2) x.1)
    where
      some_early : (test : Early → Bool) (xs : List Early) → list_any test xs ≡ true → (x : Early) × Among x xs × (test x ≡ true)
      some_early test [] h = absurd (true_false (sym h))
      some_early test (x ∷ xs) h = over (test x) refl (some_early test xs) h
        where
          over : (b : Bool) → test x ≡ b → (list_any test xs ≡ true → (z : Early) × Among z xs × (test z ≡ true)) → (b || list_any test xs) ≡ true → (z : Early) × Among z (x ∷ xs) × (test z ≡ true)
          over true is later k = (x, inl refl, is)
          over false is later k = (let r : (z : Early) × Among z xs × (test z ≡ true) = later k in (r.0, inr r.1, r.2))
  waits z false e_is = among_right (held_request s y.process (open_body y serial file q)) t.early _ (inl refl)

  wait_started : (b : Bool) → (cond b t (record t { early = t.early ++ held_request s y.process (open_body y serial file q) ∷ [] })).started ≡ t.started
  wait_started true = refl
  wait_started false = refl

  wait_group : (b : Bool) → (cond b t (record t { early = t.early ++ held_request s y.process (open_body y serial file q) ∷ [] })).group ≡ t.group
  wait_group true = refl
  wait_group false = refl

  pub open_goes_on : Carried c e now s y (asking.Open serial file q) (at_table_of h (Some t) v).sent
  open_goes_on = over t.started refl (asked_there c e css (place_at w) v was h t rise at.0 none_hand grows (own_serial s serial))
    where
      by : Bool → Outcome SyncTable
      by b = elim b [ true ↦ takes_open f s o t | false ↦ quiet (waits_early s y.process (open_body y serial file q) t) ]

      -- the table stands in its place
      held_there : (n : SyncTable) → n.group ≡ t.group → n.started ≡ false → Among (held_request s y.process (open_body y serial file q)) n.early → IsHeld c e (placed (place_at w) css (record v { tables = with_row table_group n v.tables })) s y (asking.Open serial file q)
      held_there n group z a = (
        css,
        sync,
        record {
          view = record v { tables = with_row table_group n v.tables };
          here = placed_here (place_at w) css (record v { tables = with_row table_group n v.tables });
          table = n;
          found = subst (λ (j : ℕ). row table_group j (with_row table_group n v.tables) ≡ Some n) (group ∙ at.1) (row_same table_group n v.tables);
          unstarted = z;
          held = a;
        },
      )

      over : (b : Bool) → t.started ≡ b → ((r : OpenRow) → open_row (by b).view (own_serial s serial) ≡ Some r → is_opened_in (own_serial s serial) (by b).view ≡ true → r.stage ≡ stage.Asked → ((j : SyncTable) → Among j v.tables → (j.group ≡ t.group → ⊥) → is_opened_in (own_serial s serial) j ≡ false) → IsAsked (placed (place_at w) css (record v { tables = with_row table_group (by b).view v.tables })) css (own_serial s serial) r) →
          Carried c e (placed (place_at w) css (record v { tables = with_row table_group (by b).view v.tables })) s y (asking.Open serial file q) (by b).sent
      over true z asked = inl (opens_lift c e css (placed (place_at w) css (record v { tables = with_row table_group (takes_open f s o t).view v.tables })) s y serial file q (takes_open f s o t).view (takes_open f s o t).sent sync
          (λ r g has stage. asked r g has stage (open_alone c w past e css v rise tables t at.0 s serial y.call y.process y.request file q fact at.1))
          (open_taken c e css s o own member (IsNamedIn w.trace) (CameIn w.sent) t (tables t at.0).shape (row_well c w.trace past e css s y k serial file q is low w.sent t (tables t at.0))))
      over false z asked = inr (held_there (waits_early s y.process (open_body y serial file q) t) (wait_group (list_any (is_early_of s y.process) t.early)) (wait_started (list_any (is_early_of s y.process) t.early) ∙ z) (waits z (list_any (is_early_of s y.process) t.early) refl))

-- ---- the row ----

forms : (b : Body) → IsOpen b → FormsNone b × TriesNone b
forms (body.Open serial call process request file q) k = (tt, tt)
forms _ k = absurd k

pub open_request_row : (c : Config) → AllGoToMembers c → CarriesOn c IsOpen
open_request_row c members lines n e x w d kind old = handler_row c members lines n e x w d (forms x.packet.body kind).0 (forms x.packet.body kind).1
    (turn_hands c e m (place_at w) x.packet d.view (group_of x.packet.body) none_hand (keeps x.packet.body refl kind) takes (λ s y z still hand by. absurd hand) (λ group css s copies sync g. absurd (of_kind IsOpen c e s css (body.Report group copies) x.packet kind g))) old
  where
    m : ℕ
    m = x.packet.to

    f : Frame
    f = frame_of c e m

    facts : RoundFacts c w
    facts = round_facts c lines n w d.round

    past : Past c w.trace
    past = past_of c w facts

    inside : InsideFact c f w.trace d.view
    inside = inside_fact c e w m d.view facts.fact d.before d.member d.here

    rise : Rising (map table_group d.view.tables)
    rise = tables_rise f d.view.tables inside.groups

    tables : (t : SyncTable) → Among t d.view.tables → IsTable c w.trace past e m w.sent t
    tables = tables_of c lines n w d.round e m d.view d.before d.member d.here

    group_of : Body → ℕ
    group_of (body.Open serial call process request file q) = file.group
    group_of _ = 0

    came : PacketFact c w.trace x.packet
    came = came_fact c w x facts (next_among w w.over x d.next)

    o : Outcome SiteView
    o = handles c e m x.packet d.view

    keeps : (b : Body) → x.packet.body ≡ b → IsOpen b → TurnKeeps c e m (place_at w) d.view (group_of b) none_hand o
    keeps (body.Open serial call process request file q) is k = subst (λ (z : Outcome SiteView). TurnKeeps c e m (place_at w) d.view file.group none_hand z) (sym (ap (λ (z : Body). takes_inside f x.packet.from z d.view) is)) (over (row table_group file.group d.view.tables) refl)
      where
        r : OpenRequest
        r = record { serial = serial; call = call; process = process; request = request; file = file; how = q }

        epoch_is : x.packet.epoch ≡ e.id
        epoch_is = came_in e x.packet d.view (taker c lines n e x w d).epoch (ap (λ (z : Body). nat_lt (kind_number z) 6) is) d.taken

        fact : OpenFact c w.trace e.id x.packet.from serial call process request file q
        fact = subst (λ (i : EpochId). OpenFact c w.trace i x.packet.from serial call process request file q) epoch_is (subst (λ (z : Body). BodyFact c w.trace x.packet z) is came)

        grows : (t : SyncTable) → Among t d.view.tables → t.group ≡ file.group → Grows (IsIn d.view.tables) none_hand t (on_open f x.packet.from r t).view
        grows t there group = by_start t.started refl
          where
            by_start : (b : Bool) → t.started ≡ b → Grows (IsIn d.view.tables) none_hand t (elim b as (λ (z : Bool). Outcome SyncTable) [ true ↦ takes_open f x.packet.from r t | false ↦ quiet (waits_early x.packet.from process (body.Open serial call process request file q) t) ]).view
            by_start true z = open_grows (IsIn d.view.tables) none_hand f x.packet.from r t z (open_known c w past e m d.view rise tables t there x.packet.from serial call process request file q fact group)
            by_start false z = wait_grows (IsIn d.view.tables) none_hand x.packet.from process (body.Open serial call process request file q) t

        over : (z : Option SyncTable) → row table_group file.group d.view.tables ≡ z → TurnKeeps c e m (place_at w) d.view file.group none_hand (at_table_of (on_open f x.packet.from r) z d.view)
        over None z = quiet_keeps c e m (place_at w) d.view file.group none_hand d.here
        over (Some t) z = (let t_at : Among t d.view.tables × (table_group t ≡ file.group) = row_key table_group file.group d.view.tables t z in
            subst (λ (j : ℕ). TurnKeeps c e m (place_at w) d.view j none_hand (at_table_of (on_open f x.packet.from r) (Some t) d.view)) t_at.1
            (turn_keeps c e m (place_at w) d.view d.here (on_open f x.packet.from r) t rise t_at.0 none_hand (grows t t_at.0 t_at.1)))
    keeps _ is k = absurd k

    takes : (s : ℕ) (y : WaitingCall) → StillWaits e (place_at w) (placed (place_at w) m o.view) s y → Carries c e (place_at w) s y y.asking x.packet → IsHandedOn c e (placed (place_at w) m o.view) o.sent s y
    takes s y still g = by_asking y.asking refl g
      where
        by_asking : (a : Asking) → y.asking ≡ a → Carries c e (place_at w) s y a x.packet → Carried c e (placed (place_at w) m o.view) s y a o.sent
        by_asking (asking.Open serial file q) is h = at_css h.0 h.1 (comes c e (place_at w) s y serial file q h.0 x.packet kind h.2)
          where
            at_css : (css : ℕ) → sync_site c e.members file.group ≡ Some css → Goes c e s css (open_body y serial file q) x.packet → Carried c e (placed (place_at w) m o.view) s y (asking.Open serial file q) o.sent
            at_css css sync z = done (table_there c w.trace e file.group m (boot_in e.members.boot m) d.view d.round.groups inside sync_m)
              where
                to : m ≡ css
                to = ap (λ (p : Packet). p.to) z.is

                sync_m : sync_site c e.members file.group ≡ Some m
                sync_m = sync ∙ ap Some (sym to)

                k : WaitingFact c w.trace (frame_of c e s) y
                k = every_among (WaitingFact c w.trace (frame_of c e s)) y still.before.users.waiting still.waited (inside_fact c e w s still.before facts.fact d.before still.member still.was).users.inside.inside.calls

                r : OpenRequest
                r = record { serial = serial; call = y.call; process = y.process; request = y.request; file = file; how = q }

                same : o ≡ at_table_of (on_open f s r) (row table_group file.group d.view.tables) d.view
                same = ap (λ (p : Packet). takes_inside f p.from p.body d.view) z.is

                done : (t : SyncTable) × (row table_group file.group d.view.tables ≡ Some t) → Carried c e (placed (place_at w) m o.view) s y (asking.Open serial file q) o.sent
                done t = subst (λ (u : Outcome SiteView). Carried c e (placed (place_at w) m u.view) s y (asking.Open serial file q) u.sent) (sym (same ∙ ap (λ (j : Option SyncTable). at_table_of (on_open f s r) j d.view) t.1))
                    (open_goes_on c w past e d.view s m y serial file q d.here d.member still.member (member_low c e w s facts d.before still.member) sync_m is k rise tables t.0 t.1)
        by_asking (asking.Look file what take) is h = absurd (no_open (asking.Look file what take) x.packet.body kind (carrier_kind c e (place_at w) s y (asking.Look file what take) x.packet h) (λ j f q r. cc))
        by_asking (asking.Op serial ss number op seen) is h = absurd (no_open (asking.Op serial ss number op seen) x.packet.body kind (carrier_kind c e (place_at w) s y (asking.Op serial ss number op seen) x.packet h) (λ j f q r. cc))
        by_asking (asking.Close serial ss) is h = absurd (no_open (asking.Close serial ss) x.packet.body kind (carrier_kind c e (place_at w) s y (asking.Close serial ss) x.packet h) (λ j f q r. cc))

-- A look comes to its synchronization site: it is held there until the group starts, and answered or passed to a member that holds the
-- version once it has, where the tables know the looks that are asked.
use Rattle.std.proofs.Common.{◌≡◌, ℕ, ◌⊎◌, ◌||◌, Bool, true, false, cond, List, [], ◌∷◌, ◌++◌, map, filter, Option, Some, None, refl, sym, ◌∙◌, ap, subst, inl, inr}
use Rattle.std.specs.List.{list_any}
use Rattle.role_steps.proofs.of_plain_facts.Tests.{true_false}
use Rattle.locus_ids.specs.declared.config.Config.{Config}
use Rattle.locus_ids.specs.declared.ids.FileId.{FileId}
use Rattle.locus_ids.specs.declared.ids.Stamp.{Stamp}
use Rattle.locus_ids.specs.declared.refusal.Refusal.{Refusal}
use Rattle.locus_ids.specs.declared.refusal.Refusal.TheVariants as refusal
use Rattle.commit_graph.specs.Versions.{same_stamp}
use Rattle.schedule_lines.specs.declared.line.ScheduleLine.{ScheduleLine}
use Rattle.trace_book.specs.declared.operation.What.{What}
use Rattle.trace_book.specs.declared.operation.What.TheVariants as what
use Rattle.wire_messages.specs.declared.body.Body.{Body}
use Rattle.wire_messages.specs.declared.body.Body.TheVariants as body
use Rattle.wire_messages.specs.declared.body.LookAnswer.{LookAnswer}
use Rattle.wire_messages.specs.declared.body.LookAnswer.TheVariants as looked
use Rattle.wire_messages.specs.declared.packet.Packet.{Packet}
use Rattle.role_steps.specs.Adoption.{table_group}
use Rattle.role_steps.specs.Looks.{LookRequest, Service, Denies, Serves, Letter, served_by, only_kept, whole_kept, service_on, service, serving_letter, letter, look_key, is_look_before, is_same_look, new_look, after_last, takes_look}
use Rattle.role_steps.specs.Own.{Every}
use Rattle.role_steps.specs.Reports.{waits_early, is_early_of, on_look}
use Rattle.role_steps.specs.Tables.{row, with_row}
use Rattle.role_steps.specs.Using.{answers_what}
use Rattle.role_steps.specs.Versions.{file_row, holders_of, holding_site, chosen_site}
use Rattle.role_steps.specs.Views.{Frame, SiteView, Outcome, packet, process_key, quiet, sends, sync_site}
use Rattle.role_steps.specs.declared.rounds.InEpoch.{InEpoch}
use Rattle.role_steps.specs.declared.synchronizing.Early.{Early}
use Rattle.role_steps.specs.declared.synchronizing.FileRow.{FileRow}
use Rattle.role_steps.specs.declared.synchronizing.Holding.{Holding}
use Rattle.role_steps.specs.declared.synchronizing.LastLook.{LastLook}
use Rattle.role_steps.specs.declared.synchronizing.SyncTable.{SyncTable}
use Rattle.role_steps.specs.declared.synchronizing.VersionRow.{VersionRow}
use Rattle.role_steps.specs.declared.users.Asking.{Asking}
use Rattle.role_steps.specs.declared.users.Asking.TheVariants as asking
use Rattle.role_steps.specs.declared.users.WaitingCall.{WaitingCall}
use Rattle.role_steps.proofs.Rows.{row_same}
use Rattle.the_run.specs.Kept.{Among}
use Rattle.the_run.specs.Steps.{at_table_of, takes_inside}
use Rattle.the_run.specs.Worlds.{World, Running, place_at}
use Rattle.the_run.proofs.InsideSync.{Found}
use Rattle.site_laws.proofs.Packs.Sets.{chosen}
use Rattle.run_laws.specs.Epochs.Forming.{FormsNone}
use Rattle.run_laws.specs.Epochs.Known.{Places}
use Rattle.store_laws.specs.OneTree.Places.{InsideFact}
use Rattle.store_laws.proofs.OneTree.Parts.{tables_rise}
use Rattle.store_laws.proofs.OneTree.Rising.{Rising, row_key}
use Rattle.row_laws.specs.Orderly.Calm.{AreTogether}
use Rattle.row_laws.proofs.Orderly.Formed.{among_left, among_right}
use Rattle.role_steps.specs.Epochs.{frame_in}
use Rattle.calm_laws.specs.Carrying.{IsMember, frame_of, Goes, held_request, look_body, IsServedByHolders, PassesLook, AnswersLook, CarriesLook, Carries, IsHeld}
use Rattle.calm_laws.specs.Rounds.{IsInRound, CarriesOn, IsLook, look_of, KnowsLook, LooksAreKnown}
use Rattle.calm_laws.proofs.AnswerRows.{inside_fact}
use Rattle.calm_laws.proofs.Carriers.{of_kind, MayCarry, carrier_kind}
use Rattle.calm_laws.proofs.Ends.{handles}
use Rattle.calm_laws.proofs.Facts.{round_facts}
use Rattle.calm_laws.proofs.Handing.{StillWaits, IsHandedOn}
use Rattle.calm_laws.proofs.Keeping.{KeepsTable, all_itself}
use Rattle.calm_laws.proofs.Others.{Leaves, put_kept}
use Rattle.calm_laws.proofs.TableThere.{table_there}
use Rattle.calm_laws.proofs.Rows.{AllGoToMembers, TriesNone, Taker, taker, placed, placed_here, keeping_hands, handler_row}

-- ---- what the handler keeps ----

abbrev KeepsIn : SyncTable → Outcome SyncTable → Type 0
KeepsIn t o = KeepsTable t o.view

itself : (t : SyncTable) → KeepsTable t t
itself t = (all_itself (t ∷ [])).0

after_keeps : (f : Frame) (us : ℕ) (l : LookRequest) (o : Option LastLook) (t : SyncTable) → KeepsTable t (after_last f us l o t).view
after_keeps f us l None t = record { group = refl; started = refl; early = λ x a. a; opens = refl; reported = refl }
after_keeps f us l (Some last) t = by_before (is_look_before l last)
  where
    by_same : (b : Bool) → KeepsIn t (elim b [ true ↦ sends (packet f last.to last.body ∷ []) t | false ↦ new_look f us l (file_row t l.file.ino) t ])
    by_same true = itself t
    by_same false = record { group = refl; started = refl; early = λ x a. a; opens = refl; reported = refl }

    by_before : (b : Bool) → KeepsIn t (elim b [ true ↦ quiet t | false ↦ elim (is_same_look l last) [ true ↦ sends (packet f last.to last.body ∷ []) t | false ↦ new_look f us l (file_row t l.file.ino) t ] ])
    by_before true = itself t
    by_before false = by_same (is_same_look l last)

look_keeps : (f : Frame) (us : ℕ) (l : LookRequest) (t : SyncTable) → KeepsTable t (on_look f us l t).view
look_keeps f us l t = by_started t.started
  where
    waits : (b : Bool) → KeepsTable t (cond b t (record t { early = t.early ++ record { site = us; process = l.process; body = body.Look l.call l.process l.request l.take l.file l.what } ∷ [] }))
    waits true = itself t
    waits false = record { group = refl; started = refl; early = λ x a. among_left x t.early _ a; opens = refl; reported = refl }

    by_started : (b : Bool) → KeepsIn t (elim b [ true ↦ takes_look f us l t | false ↦ quiet (waits_early us l.process (body.Look l.call l.process l.request l.take l.file l.what) t) ])
    by_started true = after_keeps f us l (row look_key (process_key us l.process) t.looks) t
    by_started false = waits (list_any (is_early_of us l.process) t.early)

-- ---- the answer ----

pub record LooksOn (c : Config) (e : InEpoch) (css s : ℕ) (y : WaitingCall) (file : FileId) (w : What) (take : ℕ) (sent : List Packet) : Type 0 where
  pub letter : Packet
  pub there : Among letter sent
  pub carries : PassesLook c e s y file w take letter ⊎ AnswersLook c e s y w take letter

module _ (c : Config) (e : InEpoch) (css s : ℕ) (y : WaitingCall) (file : FileId) (w : What) (take : ℕ) (here : IsMember e css) (member : IsMember e s) where
  abbrev f : Frame
  f = frame_of c e css

  abbrev l : LookRequest
  l = look_of y file w take

  done : (a : LookAnswer) (rest : List Packet) → answers_what w a ≡ true → LooksOn c e css s y file w take (packet f s (body.LookDone y.call y.request take a) ∷ rest)
  done a rest fits = record { letter = packet f s (body.LookDone y.call y.request take a); there = inl refl; carries = inr (record { from = css; answer = a; fits = fits; goes = record { sender = here; receiver = member; is = refl } }) }

  denied : (q : What) (why : Refusal) → answers_what q (looked.No why) ≡ true
  denied (what.Name component) why = refl
  denied what.List why = refl
  denied (what.Whole stamp) why = refl
  denied what.Stat why = refl

  passed : (stamp : Stamp) (site : ℕ) → IsServedByHolders w → IsMember e site → LooksOn c e css s y file w take (packet f site (body.LookSs s y.call y.process y.request take file w stamp) ∷ [])
  passed stamp site served holds = record { letter = packet f site (body.LookSs s y.call y.process y.request take file w stamp); there = inl refl; carries = inl (record { css = css; holder = site; stamp = stamp; served = served; goes = record { sender = here; receiver = holds; is = refl } }) }

  abbrev Sends : Letter → Type 0
  Sends a = LooksOn c e css s y file w take (packet f a.to a.body ∷ [])

  serving : (r : FileRow) (v : VersionRow) (site : ℕ) (q : What) → w ≡ q → IsMember e site → Sends (serving_letter s l r v site q)
  serving r v site what.Stat is holds = done (looked.Stat r.kind v.size v.stamp) [] (ap (λ (z : What). answers_what z (looked.Stat r.kind v.size v.stamp)) is)
  serving r v site (what.Name component) is holds = passed v.stamp site (subst IsServedByHolders (sym is) tt) holds
  serving r v site what.List is holds = passed v.stamp site (subst IsServedByHolders (sym is) tt) holds
  serving r v site (what.Whole stamp) is holds = passed v.stamp site (subst IsServedByHolders (sym is) tt) holds

  -- who serves is a member
  abbrev ServesWell : Service → Type 0
  ServesWell (Denies why) = Unit {0}
  ServesWell (Serves v site) = IsMember e site

  holders : (stamp : Stamp) (hs : List Holding) → Every (λ (h : Holding). IsMember e h.site) hs → Every (IsMember e) (map holding_site (filter (λ (h : Holding). same_stamp h.stamp stamp) hs))
  holders stamp [] h = tt
  holders stamp (x ∷ xs) h = over (same_stamp x.stamp stamp) (holders stamp xs h.1)
    where
      over : (b : Bool) → Every (IsMember e) (map holding_site (filter (λ (z : Holding). same_stamp z.stamp stamp) xs)) → Every (IsMember e) (map holding_site (cond b (x ∷ filter (λ (z : Holding). same_stamp z.stamp stamp) xs) (filter (λ (z : Holding). same_stamp z.stamp stamp) xs)))
      over true k = (h.0, k)
      over false k = k

  served : (v : VersionRow) (o : Option ℕ) → Found (IsMember e) o → ServesWell (served_by v o)
  served v None k = tt
  served v (Some site) k = k

  only : (us : ℕ) (r : FileRow) (vs : List VersionRow) → Every (λ (h : Holding). IsMember e h.site) r.holders → ServesWell (only_kept f us r vs)
  only us r [] h = tt
  only us r (v ∷ []) h = served v (chosen_site us css (holders_of r v.stamp)) (chosen (IsMember e) us css (holders_of r v.stamp) (holders v.stamp r.holders h))
  only us r (v ∷ x ∷ vs) h = tt

  whole : (r : FileRow) (stamp : Stamp) (vs : List VersionRow) → Every (λ (h : Holding). IsMember e h.site) r.holders → ServesWell (whole_kept f r stamp vs)
  whole r stamp [] h = tt
  whole r stamp (v ∷ vs) h = over (same_stamp v.stamp stamp) (whole r stamp vs h)
    where
      over : (b : Bool) → ServesWell (whole_kept f r stamp vs) → ServesWell (elim b [ true ↦ served_by v (chosen_site css css (holders_of r stamp)) | false ↦ whole_kept f r stamp vs ])
      over true k = served v (chosen_site css css (holders_of r stamp)) (chosen (IsMember e) css css (holders_of r stamp) (holders stamp r.holders h))
      over false k = k

  serves : (r : FileRow) (q : What) → Every (λ (h : Holding). IsMember e h.site) r.holders → ServesWell (service_on f s r q)
  serves r (what.Whole stamp) h = whole r stamp r.kept h
  serves r (what.Name component) h = only s r r.kept h
  serves r what.List h = only s r r.kept h
  serves r what.Stat h = only s r r.kept h

  lettered : (r : FileRow) (z : Service) → ServesWell z → Sends (letter s l (Some r) z)
  lettered r (Denies why) k = done (looked.No why) [] (denied w why)
  lettered r (Serves v site) k = serving r v site w refl k

  new_one : (o : Option FileRow) → ((r : FileRow) → o ≡ Some r → Every (λ (h : Holding). IsMember e h.site) r.holders) → Sends (letter s l o (service f s w o))
  new_one None h = done (looked.No refusal.NoStorage) [] (denied w refusal.NoStorage)
  new_one (Some r) h = lettered r (service_on f s r w) (serves r w (h r refl))

  abbrev On : Outcome SyncTable → Type 0
  On o = LooksOn c e css s y file w take o.sent

  -- in a group that has started
  pub taken : (t : SyncTable) → KnowsLook c e css s y file w take t → On (takes_look f s l t)
  taken t k = by_last (row look_key (process_key s y.process) t.looks) refl
    where
      by_last : (o : Option LastLook) → row look_key (process_key s y.process) t.looks ≡ o → On (after_last f s l o t)
      by_last None is = new_one (file_row t file.ino) k.holders
      by_last (Some last) is = by_before (is_look_before l last) (k.last last is).0
        where
          by_same : (b : Bool) → is_same_look l last ≡ b → On (elim b [ true ↦ sends (packet f last.to last.body ∷ []) t | false ↦ new_look f s l (file_row t l.file.ino) t ])
          by_same true same = record { letter = packet f last.to last.body; there = inl refl; carries = (k.last last is).1 same }
          by_same false same = new_one (file_row t file.ino) k.holders

          by_before : (b : Bool) → b ≡ false → On (elim b [ true ↦ quiet t | false ↦ elim (is_same_look l last) [ true ↦ sends (packet f last.to last.body ∷ []) t | false ↦ new_look f s l (file_row t l.file.ino) t ] ])
          by_before true later = absurd (true_false later)
          by_before false later = by_same (is_same_look l last) refl

  -- it is answered or passed on, or held
  abbrev OnOrHeld : Outcome SyncTable → Type 0
  OnOrHeld o = LooksOn c e css s y file w take o.sent ⊎ ((o.view.started ≡ false) × Among (held_request s y.process (look_body y file w take)) o.view.early)

  some_early : (test : Early → Bool) (xs : List Early) → list_any test xs ≡ true → (x : Early) × Among x xs × (test x ≡ true)
  some_early test [] h = absurd (true_false (sym h))
  some_early test (x ∷ xs) h = over (test x) refl (some_early test xs) h
    where
      over : (b : Bool) → test x ≡ b → (list_any test xs ≡ true → (z : Early) × Among z xs × (test z ≡ true)) → (b || list_any test xs) ≡ true → (z : Early) × Among z (x ∷ xs) × (test z ≡ true)
      over true is later k = (x, inl refl, is)
      over false is later k = (let r : (z : Early) × Among z xs × (test z ≡ true) = later k in (r.0, inr r.1, r.2))

  looks : (t : SyncTable) → KnowsLook c e css s y file w take t → OnOrHeld (on_look f s l t)
  looks t k = by_started t.started refl
    where
      waits : t.started ≡ false → (b : Bool) → list_any (is_early_of s y.process) t.early ≡ b → OnOrHeld (quiet (cond b t (record t { early = t.early ++ record { site = s; process = y.process; body = body.Look y.call y.process y.request take file w } ∷ [] })))
      waits z true is = (let x : (x : Early) × Among x t.early × (is_early_of s y.process x ≡ true) = some_early (is_early_of s y.process) t.early is in inr (z, subst (λ (z : Early). Among z t.early) (k.held x.0 x.1 x.2) x.1))
      waits z false is = inr (z, among_right (held_request s y.process (look_body y file w take)) t.early _ (inl refl))

      by_started : (b : Bool) → t.started ≡ b → OnOrHeld (elim b [ true ↦ takes_look f s l t | false ↦ quiet (waits_early s y.process (body.Look y.call y.process y.request take file w) t) ])
      by_started true is = inl (taken t k)
      by_started false is = waits is (list_any (is_early_of s y.process) t.early) refl

-- ---- the row ----

table_leaves : (g : SyncTable → Outcome SyncTable) (group : ℕ) (o : Option SyncTable) (v : SiteView) → ((t : SyncTable) → KeepsTable t (g t).view) → Rising (map table_group v.tables) → row table_group group v.tables ≡ o → Leaves v (at_table_of g o v).view
table_leaves g group None v k r e = record { boot = refl; round = refl; epoch = refl; users = refl; roles = record { tables = all_itself v.tables; instances = refl } }
table_leaves g group (Some t) v k r e = record {
  boot = refl;
  round = refl;
  epoch = refl;
  users = refl;
  roles = record { tables = put_kept v.tables t (g t).view r (ap (λ (n : ℕ). row table_group n v.tables) ((k t).group ∙ (row_key table_group group v.tables t e).1) ∙ e) (k t); instances = refl };
}

handler_leaves : (f : Frame) (from : ℕ) (b : Body) (v : SiteView) → IsLook b → Rising (map table_group v.tables) → Leaves v (takes_inside f from b v).view
handler_leaves f from (body.Look call process request take file w) v k r = table_leaves (on_look f from (record { call = call; process = process; request = request; take = take; file = file; what = w })) file.group (row table_group file.group v.tables) v (look_keeps f from (record { call = call; process = process; request = request; take = take; file = file; what = w })) r refl
handler_leaves f from _ v k r = absurd k

forms : (b : Body) → IsLook b → FormsNone b × TriesNone b
forms (body.Look call process request take file w) k = (tt, tt)
forms _ k = absurd k

only_looks : (a : Asking) (b : Body) → IsLook b → MayCarry a b → (file : FileId) × (w : What) × (take : ℕ) × (a ≡ asking.Look file w take)
only_looks (asking.Look file w take) b k h = (file, w, take, refl)
only_looks (asking.Open serial file how) (body.Look call process request take f w) k h = absurd h
only_looks (asking.Open serial file how) _ k h = absurd k
only_looks (asking.Op serial ss n o seen) (body.Look call process request take f w) k h = absurd h
only_looks (asking.Op serial ss n o seen) _ k h = absurd k
only_looks (asking.Close serial ss) (body.Look call process request take f w) k h = absurd h
only_looks (asking.Close serial ss) _ k h = absurd k

no_look : (a : Asking) (b : Body) → IsLook b → MayCarry a b → ((f : FileId) (q : What) (t : ℕ) → a ≡ asking.Look f q t → ⊥) → ⊥
no_look a b k h differs = (let r : (f : FileId) × (q : What) × (t : ℕ) × (a ≡ asking.Look f q t) = only_looks a b k h in differs r.0 r.1 r.2 r.3)

-- the request itself comes
comes : (c : Config) (e : InEpoch) (s : ℕ) (y : WaitingCall) (file : FileId) (w : What) (take css : ℕ) (p : Packet) → IsLook p.body → CarriesLook c e s y file w take css p → Goes c e s css (look_body y file w take) p
comes c e s y file w take css p k (inl g) = g
comes c e s y file w take css p k (inr (inl h)) = absurd (of_kind IsLook c e h.css h.holder (body.LookSs s y.call y.process y.request take file w h.stamp) p k h.goes)
comes c e s y file w take css p k (inr (inr h)) = absurd (of_kind IsLook c e h.from s (body.LookDone y.call y.request take h.answer) p k h.goes)

abbrev Carried : Config → InEpoch → Places → ℕ → WaitingCall → Asking → List Packet → Type 0
Carried c e now s y a sent = ((q : Packet) × Among q sent × Carries c e now s y a q) ⊎ IsHeld c e now s y a

-- at the view of the synchronization site
goes_on : (c : Config) (e : InEpoch) (at : Places) (v : SiteView) (s css : ℕ) (y : WaitingCall) (file : FileId) (w : What) (take : ℕ) (p : Packet) → IsMember e s → sync_site c e.members file.group ≡ Some css → Goes c e s css (look_body y file w take) p → (t : SyncTable) → row table_group file.group v.tables ≡ Some t → KnowsLook c e css s y file w take t →
    Carried c e (placed at p.to (handles c e p.to p v).view) s y (asking.Look file w take) (handles c e p.to p v).sent
goes_on c e at v s css y file w take p member sync g t found knows = subst (λ (z : Packet). Carried c e (placed at z.to (handles c e z.to z v).view) s y (asking.Look file w take) (handles c e z.to z v).sent) (sym g.is)
    (subst (λ (o : Option SyncTable). Carried c e (placed at css (at_table_of h o v).view) s y (asking.Look file w take) (at_table_of h o v).sent) (sym found) (over (looks c e css s y file w take g.receiver member t knows)))
  where
    h : SyncTable → Outcome SyncTable
    h = on_look (frame_of c e css) s (look_of y file w take)

    new : SyncTable
    new = (h t).view

    group : new.group ≡ file.group
    group = (look_keeps (frame_of c e css) s (look_of y file w take) t).group ∙ (row_key table_group file.group v.tables t found).1

    over : LooksOn c e css s y file w take (h t).sent ⊎ ((new.started ≡ false) × Among (held_request s y.process (look_body y file w take)) new.early) → Carried c e (placed at css (at_table_of h (Some t) v).view) s y (asking.Look file w take) (at_table_of h (Some t) v).sent
    over (inl k) = inl (k.letter, k.there, (css, sync, inr k.carries))
    over (inr k) = inr (css, sync, record { view = (at_table_of h (Some t) v).view; here = placed_here at css (at_table_of h (Some t) v).view; table = new; found = subst (λ (n : ℕ). row table_group n (with_row table_group new v.tables) ≡ Some new) group (row_same table_group new v.tables); unstarted = k.0; held = k.1 })

-- the looks that are asked are known, in each world of a round in which all members are together
abbrev pub AllLooksAreKnown : Config → Type 0
AllLooksAreKnown c = (lines : List ScheduleLine) (n : ℕ) (e : InEpoch) (w : World) → IsInRound c lines n w → AreTogether w e → LooksAreKnown c e w

pub look_row : (c : Config) → AllGoToMembers c → AllLooksAreKnown c → CarriesOn c IsLook
look_row c members known lines n e x w d kind old = handler_row c members lines n e x w d (forms x.packet.body kind).0 (forms x.packet.body kind).1 (record {
  boot = left.boot;
  round = left.round;
  epoch = left.epoch;
  hands = keeping_hands c e m (place_at w) x.packet d.view o.view o.sent d.here left.roles (λ y a. inl (subst (λ u. Among y u.waiting) left.users a)) takes (λ from to group copies g. of_kind IsLook c e from to (body.Report group copies) x.packet kind g);
}) old
  where
    m : ℕ
    m = x.packet.to

    k : Taker c e m d.view
    k = taker c lines n e x w d

    facts : InsideFact c (frame_in c m d.view.boot e) w.trace d.view
    facts = inside_fact c w m d.view e (round_facts c lines n w d.round).fact d.here k.epoch

    o : Outcome SiteView
    o = handles c e m x.packet d.view

    left : Leaves d.view o.view
    left = handler_leaves (frame_of c e m) x.packet.from x.packet.body d.view kind (tables_rise (frame_in c m d.view.boot e) d.view.tables facts.groups)

    takes : (s : ℕ) (y : WaitingCall) → StillWaits e (place_at w) (placed (place_at w) m o.view) s y → Carries c e (place_at w) s y y.asking x.packet → IsHandedOn c e (placed (place_at w) m o.view) o.sent s y
    takes s y waits g = by_asking y.asking refl g
      where
        by_asking : (a : Asking) → y.asking ≡ a → Carries c e (place_at w) s y a x.packet → Carried c e (placed (place_at w) m o.view) s y a o.sent
        by_asking (asking.Look file what take) is h =
            let z : Goes c e s h.0 (look_body y file what take) x.packet = comes c e s y file what take h.0 x.packet kind h.2 in
            let there : place_at w h.0 ≡ Some (Running d.view) = ap (place_at w) (sym (ap (λ (p : Packet). p.to) z.is)) ∙ d.here in
            let t : (t : SyncTable) × (row table_group file.group d.view.tables ≡ Some t) = table_there c w.trace e file.group m d.view.boot d.view d.round.groups facts (h.1 ∙ ap Some (sym (ap (λ (p : Packet). p.to) z.is))) in
            goes_on c e (place_at w) d.view s h.0 y file what take x.packet waits.member h.1 z t.0 t.1 (known lines n e w d.round d.before s h.0 waits.before d.view y file what take waits.member waits.was waits.waited is h.1 there t.0 t.1)
        by_asking (asking.Open serial file how) is h = absurd (no_look (asking.Open serial file how) x.packet.body kind (carrier_kind c e (place_at w) s y (asking.Open serial file how) x.packet h) (λ f q t r. cc))
        by_asking (asking.Op serial ss number op seen) is h = absurd (no_look (asking.Op serial ss number op seen) x.packet.body kind (carrier_kind c e (place_at w) s y (asking.Op serial ss number op seen) x.packet h) (λ f q t r. cc))
        by_asking (asking.Close serial ss) is h = absurd (no_look (asking.Close serial ss) x.packet.body kind (carrier_kind c e (place_at w) s y (asking.Close serial ss) x.packet h) (λ f q t r. cc))

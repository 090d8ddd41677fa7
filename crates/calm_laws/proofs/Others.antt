-- A packet that forms an epoch, answers a report or is about copies carries no request, and leaves all that does.
use Rattle.std.proofs.Common.{◌≡◌, ℕ, ◌==◌, nat_lt, ◌<◌, Bool, true, false, not, ◌&&◌, cond, ◌⊎◌, List, [], ◌∷◌, map, Option, Some, None, refl, sym, ◌∙◌, ap, subst, inl, inr, arith}
use Rattle.std.proofs.lemmas.Bool.Decides.{nat_tests}
use Rattle.role_steps.proofs.of_plain_facts.Options.{none_some, some_same}
use Rattle.role_steps.proofs.of_plain_facts.Tests.{true_false}
use Rattle.locus_ids.specs.declared.config.Config.{Config}
use Rattle.locus_ids.specs.declared.ids.EpochId.{EpochId}
use Rattle.locus_ids.specs.declared.ids.Stamp.{Stamp}
use Rattle.locus_ids.specs.declared.sites.Links.{Links}
use Rattle.wire_messages.specs.declared.body.Body.{Body}
use Rattle.wire_messages.specs.declared.body.Body.TheVariants as body
use Rattle.locus_ids.specs.declared.sites.Members.{Members}
use Rattle.wire_messages.specs.declared.packet.Packet.{Packet}
use Rattle.locus_ids.specs.declared.sites.Sites.{Sites}
use Rattle.trace_book.specs.Same.{same_epoch}
use Rattle.role_steps.specs.Adoption.{table_group, is_ready, adopts_first, adopts_pull, notes_own_at, without_pull, with_adopted, fits_own}
use Rattle.role_steps.specs.Epochs.{frame_in, is_epoch_below, promises, reached, promise_packet, refuse_packet, on_poll, on_promise_of, on_refuse_of, may_install, joins, joined_packet, on_install, on_joined, is_in, passes_over_of}
use Rattle.role_steps.specs.Reports.{on_have_of}
use Rattle.role_steps.specs.Storage.{copy_of}
use Rattle.role_steps.specs.Tables.{row, with_row, without_row}
use Rattle.role_steps.specs.Versions.{file_row}
use Rattle.role_steps.specs.Views.{Frame, SiteView, Outcome, Receives, boot_in, quiet, sends, and_then}
use Rattle.role_steps.specs.declared.pulls.Pull.{Pull}
use Rattle.role_steps.specs.declared.rounds.InEpoch.{InEpoch}
use Rattle.role_steps.specs.declared.rounds.Round.{Round}
use Rattle.role_steps.specs.declared.synchronizing.FileRow.{FileRow}
use Rattle.role_steps.specs.declared.synchronizing.SyncTable.{SyncTable}
use Rattle.role_steps.specs.declared.users.Asking.{Asking}
use Rattle.role_steps.specs.declared.users.Asking.TheVariants as asking
use Rattle.role_steps.specs.declared.users.WaitingCall.{WaitingCall}
use Rattle.the_run.specs.Kept.{Among}
use Rattle.the_run.specs.Steps.{is_dropped, at_table_of, adopts_of, takes, takes_framed, takes_inside, tries_at, starts_mends_of, ends_event, whole, step}
use Rattle.the_run.specs.Worlds.{World, place_at}
use Rattle.run_laws.specs.Epochs.Forming.{FormsNone}
use Rattle.run_laws.specs.Epochs.Known.{Good, ViewFact}
use Rattle.run_laws.proofs.Epochs.Handlers.{leaves_of_epoch}
use Rattle.run_laws.proofs.Epochs.Run.{good_kept, first_good}
use Rattle.store_laws.specs.OneTree.Places.{InsideFact}
use Rattle.store_laws.proofs.OneTree.Parts.{tables_rise}
use Rattle.store_laws.proofs.OneTree.Rising.{Rising, row_key, among_map, every_among}
use Rattle.row_laws.specs.Orderly.Calm.{IsInside}
use Rattle.row_laws.proofs.Orderly.Places.{view_eq}
use Rattle.calm_laws.specs.Carrying.{frame_of}
use Rattle.calm_laws.specs.Rounds.{CarriesOn, IsOther}
use Rattle.calm_laws.proofs.AnswerRows.{inside_fact}
use Rattle.calm_laws.proofs.Calls.{CallsAsk}
use Rattle.calm_laws.proofs.Carriers.{of_kind, MayCarry, carrier_kind}
use Rattle.calm_laws.proofs.Ends.{After, whole_after}
use Rattle.calm_laws.proofs.Facts.{round_facts}
use Rattle.calm_laws.proofs.Handing.{Hands}
use Rattle.calm_laws.proofs.Keeping.{KeepsTable, KeepsAll, KeepsRoles, all_itself, roles_itself, roles_then}
use Rattle.calm_laws.proofs.Requests.{request_carries}
use Rattle.calm_laws.proofs.Rounds.{in_round}
use Rattle.calm_laws.proofs.Rows.{AllGoToMembers, Taker, taker, Event, event_row, keeping_hands, hands_then}

-- ---- a table in place of one of its group ----

lies_below : (a b k : ℕ) → a < k → k ≡ b → nat_lt a b ≡ false → ⊥
lies_below a b k h e t = grind (arith, nat_tests)

apart_below : (a b : ℕ) → nat_lt a b ≡ true → (a == b) ≡ true → ⊥
apart_below a b h e = grind (arith, nat_tests)

pub put_kept : (ts : List SyncTable) (t n : SyncTable) → Rising (map table_group ts) → row table_group n.group ts ≡ Some t → KeepsTable t n → KeepsAll ts (with_row table_group n ts)
put_kept [] t n r f k = absurd (none_some t f)
put_kept (x ∷ xs) t n r f k = over (nat_lt x.group n.group) (x.group == n.group) refl refl (λ g. put_kept xs t n r.1 g k) f
  where
    itself : KeepsTable x x
    itself = (all_itself (x ∷ [])).0

    over : (a b : Bool) → nat_lt x.group n.group ≡ a → (x.group == n.group) ≡ b → (row table_group n.group xs ≡ Some t → KeepsAll xs (with_row table_group n xs)) → elim b [ true ↦ Some x | false ↦ row table_group n.group xs ] ≡ Some t →
        KeepsAll (x ∷ xs) (elim a [ true ↦ x ∷ with_row table_group n xs | false ↦ elim b [ true ↦ n ∷ xs | false ↦ n ∷ x ∷ xs ] ])
    over true true less same rest g = absurd (apart_below x.group n.group less same)
    over true false less same rest g = (itself, rest g)
    over false true less same rest g = (subst (λ (z : SyncTable). KeepsTable z n) (sym (some_same x t g)) k, all_itself xs)
    over false false less same rest g = (let m : Among t xs × (t.group ≡ n.group) = row_key table_group n.group xs t g in
        absurd (lies_below x.group n.group t.group (every_among (λ (y : ℕ). x.group < y) t.group (map table_group xs) (among_map table_group t xs m.0) r.0) m.1 less))

-- ---- what is left of a site ----

pub record Leaves (v u : SiteView) : Type 0 where
  pub boot : u.boot ≡ v.boot
  pub round : u.round ≡ v.round
  pub epoch : u.epoch ≡ v.epoch
  pub users : u.users ≡ v.users
  pub roles : KeepsRoles v u

abbrev LeavesBy : SiteView → Outcome SiteView → Type 0
LeavesBy v o = Leaves v o.view

leaves_itself : (v : SiteView) → Leaves v v
leaves_itself v = record { boot = refl; round = refl; epoch = refl; users = refl; roles = roles_itself v }

-- the holders of a file are noted in its table
have_group : (from : ℕ) (stamp : Stamp) (o : Option FileRow) (t : SyncTable) → (on_have_of from stamp o t).group ≡ t.group
have_group from stamp None t = refl
have_group from stamp (Some r) t = refl

have_keeps : (from : ℕ) (stamp : Stamp) (o : Option FileRow) (t : SyncTable) → KeepsTable t (on_have_of from stamp o t)
have_keeps from stamp None t = record { group = refl; started = refl; early = λ x a. a; opens = refl; reported = refl }
have_keeps from stamp (Some r) t = record { group = refl; started = refl; early = λ x a. a; opens = refl; reported = refl }

noted_keeps : (ts : List SyncTable) (group from : ℕ) (stamp : Stamp) (o : Option FileRow) (t : SyncTable) → Rising (map table_group ts) → row table_group group ts ≡ Some t → KeepsAll ts (with_row table_group (on_have_of from stamp o t) ts)
noted_keeps ts group from stamp o t r f = put_kept ts t (on_have_of from stamp o t) r (ap (λ (g : ℕ). row table_group g ts) (have_group from stamp o t ∙ (row_key table_group group ts t f).1) ∙ f) (have_keeps from stamp o t)

noted_leaves : (v : SiteView) (group from : ℕ) (stamp : Stamp) (ino : ℕ) (o : Option SyncTable) → Rising (map table_group v.tables) → row table_group group v.tables ≡ o → (fr : SyncTable → Option FileRow) → Leaves v (at_table_of (λ (t : SyncTable). quiet (on_have_of from stamp (fr t) t)) o v).view
noted_leaves v group from stamp ino None r f fr = leaves_itself v
noted_leaves v group from stamp ino (Some t) r f fr = record { boot = refl; round = refl; epoch = refl; users = refl; roles = record { tables = noted_keeps v.tables group from stamp (fr t) t r f; instances = refl } }

-- ---- adoptions ----

adopted_leaves : (f : Frame) (p : Pull) (v : SiteView) → Rising (map table_group v.tables) → Leaves v (adopts_pull f p v).view
adopted_leaves f p v r = over (row table_group p.file.group v.tables) refl
  where
    z : SiteView
    z = with_adopted p v

    over : (o : Option SyncTable) → row table_group p.file.group v.tables ≡ o → Leaves v (notes_own_at f p o z)
    over None e = record { boot = refl; round = refl; epoch = refl; users = refl; roles = record { tables = all_itself v.tables; instances = refl } }
    over (Some t) e = record { boot = refl; round = refl; epoch = refl; users = refl; roles = record { tables = noted_keeps v.tables p.file.group f.me p.stamp (file_row t p.file.ino) t r e; instances = refl } }

adopts_leaves : (f : Frame) (ps : List Pull) (v : SiteView) → Rising (map table_group v.tables) → Leaves v (adopts_first f ps v).view
adopts_leaves f [] v r = leaves_itself v
adopts_leaves f (p ∷ ps) v r = by_ready (is_ready v p) (adopts_leaves f ps (without_pull p v) r) (adopts_leaves f ps v r)
  where
    by_above : (b : Bool) → Leaves (without_pull p v) (adopts_first f ps (without_pull p v)).view → LeavesBy v (elim b [ true ↦ adopts_pull f p v | false ↦ adopts_first f ps (without_pull p v) ])
    by_above true k = adopted_leaves f p v r
    by_above false k = record { boot = k.boot; round = k.round; epoch = k.epoch; users = k.users; roles = record { tables = k.roles.tables; instances = k.roles.instances } }

    by_ready : (b : Bool) → Leaves (without_pull p v) (adopts_first f ps (without_pull p v)).view → LeavesBy v (adopts_first f ps v) →
        LeavesBy v (elim b [ true ↦ elim (fits_own p (copy_of v.store p.file)) [ true ↦ adopts_pull f p v | false ↦ adopts_first f ps (without_pull p v) ] | false ↦ adopts_first f ps v ])
    by_ready true k h = by_above (fits_own p (copy_of v.store p.file)) k
    by_ready false k h = h

-- ---- the handler, and the adoption that it tries ----

handler_leaves : (f : Frame) (from : ℕ) (b : Body) (v : SiteView) → IsOther b → FormsNone b → Rising (map table_group v.tables) → Leaves v (takes_inside f from b v).view
handler_leaves f from (body.ReportOk group) v k n r = record { boot = refl; round = refl; epoch = refl; users = refl; roles = record { tables = all_itself v.tables; instances = refl } }
handler_leaves f from (body.Notify file kind set size stamp vector holder) v k n r = record { boot = refl; round = refl; epoch = refl; users = refl; roles = record { tables = all_itself v.tables; instances = refl } }
handler_leaves f from (body.Pull file stamp page) v k n r = record { boot = refl; round = refl; epoch = refl; users = refl; roles = record { tables = all_itself v.tables; instances = refl } }
handler_leaves f from (body.Want file wanted own) v k n r = record { boot = refl; round = refl; epoch = refl; users = refl; roles = record { tables = all_itself v.tables; instances = refl } }
handler_leaves f from (body.Page file stamp page bytes) v k n r = record { boot = refl; round = refl; epoch = refl; users = refl; roles = record { tables = all_itself v.tables; instances = refl } }
handler_leaves f from (body.Delta file wanted pages) v k n r = record { boot = refl; round = refl; epoch = refl; users = refl; roles = record { tables = all_itself v.tables; instances = refl } }
handler_leaves f from (body.Have file stamp) v k n r = noted_leaves v file.group from stamp file.ino (row table_group file.group v.tables) r refl (λ (t : SyncTable). file_row t file.ino)
handler_leaves f from body.Poll v k n r = absurd n
handler_leaves f from (body.Promise reach) v k n r = absurd n
handler_leaves f from (body.Refuse theirs) v k n r = absurd n
handler_leaves f from (body.Install members) v k n r = absurd n
handler_leaves f from body.Joined v k n r = absurd n
handler_leaves f from x v k n r = absurd k

adoption_leaves : (c : Config) (m : ℕ) (o : Option InEpoch) (u : SiteView) → Rising (map table_group u.tables) → Leaves u (adopts_of c m o u).view
adoption_leaves c m None u r = leaves_itself u
adoption_leaves c m (Some e) u r = adopts_leaves (frame_in c m u.boot e) u.pulls u r

tries_leave : (c : Config) (m : ℕ) (b : Body) (u : SiteView) → Rising (map table_group u.tables) → Leaves u (tries_at c m b u).view
tries_leave c m (body.Notify file kind set size stamp vector holder) u r = adoption_leaves c m u.epoch u r
tries_leave c m (body.Page file stamp page bytes) u r = adoption_leaves c m u.epoch u r
tries_leave c m (body.Delta file wanted pages) u r = adoption_leaves c m u.epoch u r
tries_leave c m _ u r = leaves_itself u

-- the groups of the tables stay
groups_kept : (ts ns : List SyncTable) → KeepsAll ts ns → map table_group ns ≡ map table_group ts
groups_kept [] [] k = refl
groups_kept [] (n ∷ ns) k = absurd k
groups_kept (t ∷ ts) [] k = absurd k
groups_kept (t ∷ ts) (n ∷ ns) k = ap (λ (g : ℕ). g ∷ map table_group ns) k.0.group ∙ ap (λ (gs : List ℕ). t.group ∷ gs) (groups_kept ts ns k.1)

-- ---- the whole event ----

-- a handler leaves the site, and so does the adoption that is tried then
leaves_after : (c : Config) (e : InEpoch) (m : ℕ) (links : Links) (o : Outcome SiteView) (b : Body) (v : SiteView) → Taker c e m v → Rising (map table_group v.tables) → Leaves v o.view → After (frame_of c e m) v [] (whole c m links o (tries_at c m b))
leaves_after c e m links o b v k r h = record {
  keeps = roles_then v o.view end.view h.roles z.keeps;
  calls = subst (λ (xs : List WaitingCall). CallsAsk (frame_of c e m) xs end.view.users.waiting end.sent) (ap (λ u. u.waiting) h.users) z.calls;
  sends = λ q n. absurd n;
}
  where
    a : Outcome SiteView
    a = tries_at c m b o.view

    end : Outcome SiteView
    end = whole c m links o (tries_at c m b)

    t : Leaves o.view a.view
    t = tries_leave c m b o.view (subst Rising (sym (groups_kept v.tables o.view.tables h.roles.tables)) r)

    z : After (frame_of c e m) o.view o.sent end
    z = subst (λ (n : ℕ). After (frame_in c m n e) o.view o.sent end) (t.boot ∙ (h.boot ∙ k.boot)) (whole_after c m links o (tries_at c m b) e (t.round ∙ (h.round ∙ k.none)) (t.epoch ∙ (h.epoch ∙ k.epoch)) t.roles t.users)

-- a site in no epoch, that has no round, stays in none
ends_outside : (c : Config) (m : ℕ) (links : Links) (v : SiteView) → v.round ≡ None → v.epoch ≡ None → (ends_event c m links v).view.epoch ≡ None
ends_outside c m links v none outside = by_round v.round none
  where
    by_epoch : (o : Option InEpoch) → o ≡ None → (starts_mends_of c m o v).view.epoch ≡ None
    by_epoch None h = outside
    by_epoch (Some d) h = absurd (none_some d (sym h))

    by_round : (r : Option Round) → r ≡ None → (and_then (passes_over_of c m links r v) (λ now. starts_mends_of c m now.epoch now)).view.epoch ≡ None
    by_round None h = by_epoch v.epoch outside
    by_round (Some r) h = absurd (none_some r (sym h))

-- ---- forming ----

-- the handler leaves the site, or the site leaves its epoch
abbrev LeavesOr : SiteView → Outcome SiteView → Type 0
LeavesOr v o = Leaves v o.view ⊎ ((o.view.round ≡ None) × (o.view.epoch ≡ None))

poll_leaves : (m : ℕ) (links : Links) (from boot : ℕ) (id : EpochId) (v : SiteView) → LeavesOr v (on_poll m links from boot id v)
poll_leaves m links from boot id v = elim (is_epoch_below v.promised id) as (λ b. LeavesOr v (elim b [
  | true ↦ and_then (promises m id (reached links) v) (λ now. sends (promise_packet m links from boot id now) now)
  | false ↦ sends (cond (same_epoch id v.promised && not v.installed) (promise_packet m links from boot id v) (refuse_packet m from boot id v)) v
])) [
  | true ↦ inr (refl, leaves_of_epoch m v.epoch v refl)
  | false ↦ inl (leaves_itself v)
]

promise_leaves : (from boot : ℕ) (id : EpochId) (reach : Sites) (o : Option Round) (v : SiteView) → o ≡ None → Leaves v (on_promise_of from boot id reach o v).view
promise_leaves from boot id reach None v h = leaves_itself v
promise_leaves from boot id reach (Some r) v h = absurd (none_some r (sym h))

refuse_leaves : (m : ℕ) (links : Links) (id theirs : EpochId) (o : Option Round) (v : SiteView) → o ≡ None → Leaves v (on_refuse_of m links id theirs o v).view
refuse_leaves m links id theirs None v h = leaves_itself v
refuse_leaves m links id theirs (Some r) v h = absurd (none_some r (sym h))

-- a member has installed what it promised
install_leaves : (c : Config) (m from boot : ℕ) (id : EpochId) (members : Members) (v : SiteView) → v.installed ≡ true → Leaves v (on_install c m from boot id members v).view
install_leaves c m from boot id members v h = by_may (may_install m id members v) (never (same_epoch id v.promised) v.installed (boot_in members.boot m == v.boot) h)
  where
    never : (a i b : Bool) → i ≡ true → (a && (not i && b)) ≡ false
    never true true b h = refl
    never false i b h = refl
    never a false b h = absurd (true_false (sym h))

    by_may : (b : Bool) → b ≡ false → LeavesBy v (elim b [
      | true ↦ and_then (joins c m id members v) (λ now. sends (joined_packet m from boot id now) now)
      | false ↦ sends (cond (is_in id v.epoch) (joined_packet m from boot id v) []) v
    ])
    by_may true k = absurd (true_false k)
    by_may false k = leaves_itself v

joined_leaves : (from : ℕ) (id : EpochId) (v : SiteView) → Leaves v (on_joined from id v).view
joined_leaves from id v = elim (is_in id v.epoch) as (λ b. Leaves v (cond b (record v { installs = without_row (λ (s : ℕ). s) from v.installs }) v)) [
  | true ↦ record { boot = refl; round = refl; epoch = refl; users = refl; roles = record { tables = all_itself v.tables; instances = refl } }
  | false ↦ leaves_itself v
]

framed_leaves : (c : Config) (m : ℕ) (p : Packet) (o : Option InEpoch) (v : SiteView) → Rising (map table_group v.tables) → IsOther p.body → FormsNone p.body → Leaves v (takes_framed c m p o v).view
framed_leaves c m p None v r k n = leaves_itself v
framed_leaves c m p (Some e) v r k n = handler_leaves (frame_in c m v.boot e) p.from p.body v k n r

-- what a member does with such a packet
takes_leaves : (c : Config) (e : InEpoch) (m : ℕ) (links : Links) (p : Packet) (b : Body) (v : SiteView) → p.body ≡ b → Taker c e m v → v.installed ≡ true → Rising (map table_group v.tables) → IsOther b → LeavesOr v (takes c m links p b v)
takes_leaves c e m links p body.Poll v is k i r o = poll_leaves m links p.from p.from_boot p.epoch v
takes_leaves c e m links p (body.Promise reach) v is k i r o = inl (promise_leaves p.from p.from_boot p.epoch reach v.round v k.none)
takes_leaves c e m links p (body.Refuse theirs) v is k i r o = inl (refuse_leaves m links p.epoch theirs v.round v k.none)
takes_leaves c e m links p (body.Install members) v is k i r o = inl (install_leaves c m p.from p.from_boot p.epoch members v i)
takes_leaves c e m links p body.Joined v is k i r o = inl (joined_leaves p.from p.epoch v)
takes_leaves c e m links p x v is k i r o = inl (framed_leaves c m p v.epoch v r (subst IsOther (sym is) o) (subst FormsNone (sym is) tt))

-- ---- the row ----

-- an event that ends in the epoch leaves all that carries requests
abbrev AfterIn : Config → InEpoch → ℕ → SiteView → Outcome SiteView → Type 0
AfterIn c e m v o = o.view.epoch ≡ Some e → After (frame_of c e m) v [] o

other_after : (c : Config) (e : InEpoch) (m : ℕ) (links : Links) (p : Packet) (v : SiteView) → Taker c e m v → v.installed ≡ true → Rising (map table_group v.tables) → IsOther p.body → is_dropped p v ≡ false → (step c m links v (Receives p)).view.epoch ≡ Some e → After (frame_of c e m) v [] (step c m links v (Receives p))
other_after c e m links p v k i r kind taken = by_test (is_dropped p v) taken
  where
    o : Outcome SiteView
    o = takes c m links p p.body v

    by_leaves : LeavesOr v o → (whole c m links o (tries_at c m p.body)).view.epoch ≡ Some e → After (frame_of c e m) v [] (whole c m links o (tries_at c m p.body))
    by_leaves (inl h) inside = leaves_after c e m links o p.body v k r h
    by_leaves (inr h) inside = absurd (none_some e (sym (outside p.body) ∙ inside))
      where
        by_epoch : (d : Option InEpoch) → d ≡ None → (ends_event c m links (adopts_of c m d o.view).view).view.epoch ≡ None
        by_epoch None e = ends_outside c m links o.view h.0 h.1
        by_epoch (Some d) e = absurd (none_some d (sym e))

        outside : (b : Body) → (whole c m links o (tries_at c m b)).view.epoch ≡ None
        outside (body.Notify file kindly set size stamp vector holder) = by_epoch o.view.epoch h.1
        outside (body.Page file stamp page bytes) = by_epoch o.view.epoch h.1
        outside (body.Delta file wanted pages) = by_epoch o.view.epoch h.1
        outside _ = ends_outside c m links o.view h.0 h.1

    by_test : (b : Bool) → b ≡ false → AfterIn c e m v (elim b [ true ↦ quiet v | false ↦ whole c m links o (tries_at c m p.body) ])
    by_test true h = absurd (true_false h)
    by_test false h = by_leaves (takes_leaves c e m links p p.body v refl k i r kind)

-- such a packet carries no request
carries_none : (a : Asking) (b : Body) → IsOther b → MayCarry a b → ⊥
carries_none (asking.Look file w take) (body.Look call process request t f what) k h = k
carries_none (asking.Look file w take) (body.LookSs us call process request t f what stamp) k h = k
carries_none (asking.Look file w take) (body.LookDone call request t answer) k h = k
carries_none (asking.Look file w take) _ k h = h
carries_none (asking.Open serial file how) (body.Open number call process request f h2) k h = k
carries_none (asking.Open serial file how) (body.OpenSs inst f mode set kind base vector parents) k h = k
carries_none (asking.Open serial file how) (body.Opened inst answer) k h = k
carries_none (asking.Open serial file how) (body.OpenDone number answer) k h = k
carries_none (asking.Open serial file how) _ k h = h
carries_none (asking.Op serial ss n o seen) (body.Op number k2 op s) k h = k
carries_none (asking.Op serial ss n o seen) (body.OpDone number k2 result) k h = k
carries_none (asking.Op serial ss n o seen) (body.ReadHeld number k2 at len) k h = k
carries_none (asking.Op serial ss n o seen) (body.AsHeld number k2 many) k h = k
carries_none (asking.Op serial ss n o seen) _ k h = h
carries_none (asking.Close serial ss) (body.Close number) k h = k
carries_none (asking.Close serial ss) (body.Closed inst made) k h = k
carries_none (asking.Close serial ss) (body.ClosedOk inst) k h = k
carries_none (asking.Close serial ss) (body.CloseDone number answer) k h = k
carries_none (asking.Close serial ss) _ k h = h

pub other_row : (c : Config) → AllGoToMembers c → CarriesOn c IsOther
other_row c members lines n e x w d kind old = event_row c members lines n e x w d hands old
  where
    m : ℕ
    m = x.packet.to

    k : Taker c e m d.view
    k = taker c lines n e x w d

    facts : InsideFact c (frame_in c m d.view.boot e) w.trace d.view
    facts = inside_fact c w m d.view e (round_facts c lines n w d.round).fact d.here k.epoch

    rising : Rising (map table_group d.view.tables)
    rising = tables_rise (frame_in c m d.view.boot e) d.view.tables facts.groups

    good : ViewFact (place_at w) m d.view
    good = (in_round c Good (good_kept c) (first_good c) lines n w d.round).views m d.view d.here

    hands : (links : Links) (u : World) → Event c lines n e x w d.view links u → Hands c e m (place_at w) (place_at u) x.packet d.view (step c m links d.view (Receives x.packet)).view (step c m links d.view (Receives x.packet)).sent
    hands links u h =
        hands_then c e m (place_at w) (place_at u) x.packet d.view d.view [] end d.member d.here h.run.here h.moved.others
        (keeping_hands c e m (place_at w) x.packet d.view d.view [] d.here (roles_itself d.view) (λ y a. inl a) (λ s y i g. absurd (carries_none y.asking x.packet.body kind (carrier_kind c e (place_at w) s y y.asking x.packet g)))
        (λ from to group copies g. of_kind IsOther c e from to (body.Report group copies) x.packet kind g))
        (other_after c e m links x.packet d.view k (good.inside e k.epoch).1 rising kind d.taken inside)
        (λ y a. request_carries c e (place_at u) m y y.asking d.member (h.requests m end.view y d.member h.run.here a))
      where
        end : Outcome SiteView
        end = step c m links d.view (Receives x.packet)

        inside : end.view.epoch ≡ Some e
        inside = (let i : IsInside u e m = h.together.inside m d.member in ap (λ (z : SiteView). z.epoch) (view_eq (place_at u m) end.view i.view h.run.here i.here) ∙ i.epoch)

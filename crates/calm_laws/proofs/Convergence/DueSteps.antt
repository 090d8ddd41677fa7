-- What a member is to hold after a packet came it was to hold before; or the group of the file has just started, or its version was
-- published, and notices of it are under way.
use Rattle.std.proofs.Common.{List, Option, [], ap, inl, inr, map, refl, subst, sym, ℕ, ◌++◌, ◌∙◌, ◌≡◌, ◌≢◌, ◌⊎◌}
use Rattle.calm_laws.proofs.Delivered.{inside_fact}
use Rattle.calm_laws.proofs.Events.{Under}
use Rattle.calm_laws.proofs.Facts.{round_facts}
use Rattle.calm_laws.proofs.Members.{sync_is}
use Rattle.calm_laws.specs.Carrying.{frame_of}
use Rattle.calm_laws.specs.Rounds.{Delivery}
use Rattle.calm_laws.proofs.Convergence.Coming.{Came, Comes, Ends, came, comes_step, ends_keep, taken_whole}
use Rattle.calm_laws.proofs.Convergence.Due.{IsDueTo}
use Rattle.calm_laws.proofs.Convergence.Happening.{Before, Happened, IsStill, IsTaken, before_in, remains_in, taken_happens}
use Rattle.calm_laws.proofs.Convergence.Midst.{Midst, midst_in}
use Rattle.calm_laws.proofs.Convergence.Passing.{IsPassed}
use Rattle.calm_laws.proofs.Convergence.TableRows.{reported_before}
use Rattle.calm_laws.proofs.Convergence.TableSteps.{Changed, HasCounted, RowsTell, WasSo, inside_tells, rows_itself, tries_stay, tries_tell}
use Rattle.calm_laws.specs.Convergence.Offers.{IsToHold, Offer}
use Rattle.run_laws.specs.Epochs.Forming.{FormsNone}
use Rattle.locus_ids.specs.Sites.{has}
use Rattle.locus_ids.specs.declared.config.Config.{Config}
use Rattle.row_laws.proofs.Orderly.Formed.{among_left, among_right, order_has}
use Rattle.row_laws.proofs.Orderly.Places.{view_eq}
use Rattle.row_laws.proofs.Orderly.Turns.{among_numbered}
use Rattle.store_laws.proofs.OneTree.Parts.{tables_rise}
use Rattle.store_laws.proofs.OneTree.Rising.{Rising}
use Rattle.role_steps.specs.Adoption.{adopts_first, table_group}
use Rattle.role_steps.specs.Epochs.{frame_in}
use Rattle.role_steps.specs.Notices.{file_notices}
use Rattle.role_steps.specs.Tables.{row, without_row}
use Rattle.role_steps.specs.Views.{Frame, Outcome, Receives, SiteView, quiet}
use Rattle.role_steps.specs.declared.rounds.InEpoch.{InEpoch}
use Rattle.role_steps.specs.declared.synchronizing.SyncTable.{SyncTable}
use Rattle.schedule_lines.specs.declared.line.ScheduleLine.{ScheduleLine}
use Rattle.the_run.proofs.Boots.{at_each}
use Rattle.the_run.specs.Kept.{Among}
use Rattle.the_run.specs.Runs.{arrives}
use Rattle.the_run.specs.Steps.{adopts_in, adopts_of, ends_event, in_order, step, takes_inside, tries_at}
use Rattle.the_run.specs.Worlds.{Numbered, World, links_of, number_of, numbered_from, passed, place_at}
use Rattle.wire_messages.specs.declared.body.Body.{Body}
use Rattle.wire_messages.specs.declared.body.Body.TheVariants as body
use Rattle.wire_messages.specs.declared.packet.Packet.{Packet}

-- The member has this view then; what is known of files in its tables was so before, or may have changed, and what it sends then is under
-- way.
pub record Taken (c : Config) (n : ℕ) (e : InEpoch) (x : Numbered) (w : World) (v : SiteView) : Type 0 where
  pub view : SiteView
  pub comes : Comes c n x w view
  pub sent : List Packet
  pub tells : RowsTell (frame_of c e x.packet.to) v.tables view.tables sent
  pub under : (q : Packet) → Among q sent → Under (arrives c n x w).underway q

-- what a member is to hold then it was to hold before; or that may have changed, and its notices are under way
abbrev pub DueOr : (c : Config) (e : InEpoch) (w u : World) (m : ℕ) (v : SiteView) (s : ℕ) (o : Offer) → IsDueTo c e u s o → Type 0
DueOr c e w u m v s o due = IsDueTo c e w s o ⊎ (((q : Packet) → Among q (file_notices (frame_of c e due.hold.known.css) o.file.group due.hold.file_known) → Under u.underway q) × ((m ≡ due.hold.known.css) × Changed v.tables o.file.group o.file.ino))

pub due_before : (c : Config) (lines : List ScheduleLine) (n : ℕ) (e : InEpoch) (x : Numbered) (w : World) → (d : Delivery c lines n e x w) → (t : Taken c n e x w d.view) → (s : ℕ) (o : Offer) → (due : IsDueTo c e (arrives c n x w) s o) → DueOr c e w (arrives c n x w) x.packet.to d.view s o due
due_before c lines n e x w d t s o due = at_each m h.known.css WasDue mine theirs
  where
    m : ℕ
    m = x.packet.to

    u : World
    u = arrives c n x w

    h : IsToHold c e (place_at u) s o
    h = due.hold

    WasDue : Type 0
    WasDue = DueOr c e w u m d.view s o due

    theirs : m ≢ h.known.css → WasDue
    theirs ne = inl (record {
      hold = record {
        file_known = h.file_known;
        known = record { css = h.known.css; synced = h.known.synced; view = h.known.view; here = sym (t.comes.others h.known.css ne) ∙ h.known.here; table = h.known.table; found = h.known.found; is_row = h.known.is_row };
        version = h.version;
        only = h.only;
        stamp = h.stamp;
        vector = h.vector;
        in_set = h.in_set;
      };
      started = due.started;
    })

    mine : m ≡ h.known.css → WasDue
    mine eq = over (t.tells o.file.group h.known.table (ap (λ (y : SiteView). row table_group o.file.group y.tables) (sym is) ∙ h.known.found) due.started o.file.ino h.file_known h.known.is_row)
      where
        is : h.known.view ≡ t.view
        is = view_eq (place_at u h.known.css) h.known.view t.view h.known.here (ap (place_at u) (sym eq) ∙ t.comes.here)

        over : WasSo d.view.tables o.file.group o.file.ino h.file_known ⊎ (((q : Packet) → Among q (file_notices (frame_of c e m) o.file.group h.file_known) → Among q t.sent) × Changed d.view.tables o.file.group o.file.ino) → WasDue
        over (inl was) = inl (record {
          hold = record {
            file_known = was.file_is.file_known;
            known = record { css = h.known.css; synced = h.known.synced; view = d.view; here = ap (place_at w) (sym eq) ∙ d.here; table = was.table; found = was.found; is_row = was.file_is.found };
            version = h.version;
            only = sym was.file_is.kept ∙ h.only;
            stamp = h.stamp;
            vector = h.vector;
            in_set = ap (λ (y : _). has y s) (sym was.file_is.set) ∙ h.in_set;
          };
          started = was.started;
        })
        over (inr all) = inr ((λ q a. t.under q (all.0 q (subst (λ (i : ℕ). Among q (file_notices (frame_of c e i) o.file.group h.file_known)) (sym eq) a))), (eq, all.1))

-- ---- what was sent ----

-- what the handler sends is under way
pub sent_under : (c : Config) (lines : List ScheduleLine) (n : ℕ) (e : InEpoch) (x : Numbered) (w : World) (b : Body) → (d : Delivery c lines n e x w) → x.packet.body ≡ b → FormsNone b → (q : Packet) → Among q (takes_inside (frame_of c e x.packet.to) x.packet.from b d.view).sent → Under (arrives c n x w).underway q
sent_under c lines n e x w b d is forms q a = record { letter = y.0; there = subst (λ (l : List Numbered). Among y.0 l) (sym k.comes.underway) (among_right y.0 (without_row number_of x.number w.underway) k.comes.more (subst (λ (l : List Numbered). Among y.0 l) (sym k.sends) y.1)); is = y.2 }
  where
    end : Outcome SiteView
    end = taken_whole c e (links_of (passed x.number w) x.packet.to) x.packet d.view b

    k : Came c n x w end
    k = came c lines n e x w b d is forms

    mid : Outcome SiteView
    mid = takes_inside (frame_of c e x.packet.to) x.packet.from b d.view

    tried : Outcome SiteView
    tried = tries_at c x.packet.to b mid.view

    last : Outcome SiteView
    last = ends_event c x.packet.to (links_of (passed x.number w) x.packet.to) tried.view

    in_end : Among q end.sent
    in_end = among_right q tried.sent (in_order (mid.sent ++ last.sent)) (order_has q (mid.sent ++ last.sent) (among_left q mid.sent last.sent a))

    y : (y : Numbered) × Among y (numbered_from k.number end.sent) × (y.packet ≡ q)
    y = among_numbered q k.number end.sent in_end

rise_at : (c : Config) (lines : List ScheduleLine) (n : ℕ) (e : InEpoch) (x : Numbered) (w : World) → (d : Delivery c lines n e x w) → Rising (map table_group d.view.tables)
rise_at c lines n e x w d = tables_rise (frame_of c e x.packet.to) d.view.tables (inside_fact c e w x.packet.to d.view (round_facts c lines n w d.round).fact d.before d.member d.here).groups

-- ---- the delivery ----

pub taken_so : (c : Config) (lines : List ScheduleLine) (n : ℕ) (e : InEpoch) (x : Numbered) (w : World) → (d : Delivery c lines n e x w) → Taken c n e x w d.view
taken_so c lines n e x w d = by_kind h.by
  where
    p : Packet
    p = x.packet

    m : ℕ
    m = p.to

    f : Frame
    f = frame_of c e m

    v : SiteView
    v = d.view

    u : SiteView
    u = (step c m (links_of (passed x.number w) m) v (Receives p)).view

    k : Comes c n x w u
    k = comes_step c lines n e x w d

    before : Midst c e w
    before = midst_in c lines n e w d.round d.before

    after : Midst c e (arrives c n x w)
    after = midst_in c lines n e (arrives c n x w) d.follows d.after

    b : Before c e m v
    b = before_in c e w before m v d.member d.here

    h : Happened c e m v u (Receives p)
    h = taken_happens c e m (links_of (passed x.number w) m) v b p (remains_in c e (arrives c n x w) after m u d.member k.here) d.taken

    ends : Ends h.last (ends_event c m h.links h.last).view
    ends = ends_keep c m h.links h.last e h.round h.epoch

    tables : u.tables ≡ h.last.tables
    tables = ap (λ (y : SiteView). y.tables) h.ended ∙ ends.tables

    by_table : (sent : List Packet) → RowsTell f v.tables h.last.tables sent → ((q : Packet) → Among q sent → Under (arrives c n x w).underway q) → Taken c n e x w v
    by_table sent tells under = record { view = u; comes = k; sent = sent; tells = subst (λ (ts : List SyncTable). RowsTell f v.tables ts sent) (sym tables) tells; under = under }

    -- an adoption was tried after a packet that left the tables
    by_try : (z : Body) → h.last ≡ (tries_at c m z (takes_inside f p.from z v).view).view → tries_at c m z (takes_inside f p.from z v).view ≡ adopts_in c m (takes_inside f p.from z v).view → (takes_inside f p.from z v).view.tables ≡ v.tables → (takes_inside f p.from z v).view.epoch ≡ v.epoch → Taken c n e x w v
    by_try z is tries same inside = by_table [] (subst (λ (y : SiteView). RowsTell f v.tables y.tables []) (sym (is ∙ (ap (λ (o : Outcome SiteView). o.view) tries ∙ ap (λ (o : Option InEpoch). (adopts_of c m o mid).view) (inside ∙ b.epoch))))
        (subst (λ (ts : List SyncTable). RowsTell f ts (adopts_first (frame_in c m mid.boot e) mid.pulls mid).view.tables []) same (tells_by (tries_tell (frame_in c m mid.boot e) mid.pulls mid)))) (λ q a. absurd a)
      where
        mid : SiteView
        mid = (takes_inside f p.from z v).view

        -- which frame it is matters for what is sent alone, and nothing is
        tells_by : RowsTell (frame_in c m mid.boot e) mid.tables (adopts_first (frame_in c m mid.boot e) mid.pulls mid).view.tables [] → RowsTell f mid.tables (adopts_first (frame_in c m mid.boot e) mid.pulls mid).view.tables []
        tells_by t group y found s ino r at = inl (tries_stay (frame_in c m mid.boot e) mid.pulls mid group y found s ino r at)

    by_quiet : (z : Body) → p.body ≡ z → FormsNone z → HasCounted p.from z v → h.last ≡ (tries_at c m z (takes_inside f p.from z v).view).view → tries_at c m z (takes_inside f p.from z v).view ≡ quiet (takes_inside f p.from z v).view → Taken c n e x w v
    by_quiet z is forms counted last tries = by_table (takes_inside f p.from z v).sent
        (subst (λ (y : SiteView). RowsTell f v.tables y.tables (takes_inside f p.from z v).sent) (sym (last ∙ ap (λ (o : Outcome SiteView). o.view) tries)) (inside_tells f p.from z v (rise_at c lines n e x w d) counted)) (sent_under c lines n e x w z d is forms)

    by_body : IsTaken c e m v h.last p → (z : Body) → p.body ≡ z → Taken c n e x w v
    by_body t (body.Notify about what set size stamp vector holder) is = by_try (body.Notify about what set size stamp vector holder) (t.is ∙ ap (λ (y : Body). (tries_at c m y (takes_inside f p.from y v).view).view) is) refl refl refl
    by_body t (body.Page about stamp page bytes) is = by_try (body.Page about stamp page bytes) (t.is ∙ ap (λ (y : Body). (tries_at c m y (takes_inside f p.from y v).view).view) is) refl refl refl
    by_body t (body.Delta about wanted pages) is = by_try (body.Delta about wanted pages) (t.is ∙ ap (λ (y : Body). (tries_at c m y (takes_inside f p.from y v).view).view) is) refl refl refl
    by_body t (body.Report group copies) is = by_quiet (body.Report group copies) is tt (reported_before c lines n e x w d group copies is) (t.is ∙ ap (λ (y : Body). (tries_at c m y (takes_inside f p.from y v).view).view) is) refl
    by_body t body.Poll is = absurd (subst FormsNone is t.forms)
    by_body t (body.Promise reach) is = absurd (subst FormsNone is t.forms)
    by_body t (body.Refuse promised) is = absurd (subst FormsNone is t.forms)
    by_body t (body.Install members) is = absurd (subst FormsNone is t.forms)
    by_body t body.Joined is = absurd (subst FormsNone is t.forms)
    by_body t z is = by_quiet z is tt tt (t.is ∙ ap (λ (y : Body). (tries_at c m y (takes_inside f p.from y v).view).view) is) refl

    by_kind : IsTaken c e m v h.last p ⊎ IsStill v h.last p.body → Taken c n e x w v
    by_kind (inl t) = by_body t p.body refl
    by_kind (inr q) = by_table [] (subst (λ (ts : List SyncTable). RowsTell f v.tables ts []) (sym q.tables) (rows_itself f v.tables [])) (λ q a. absurd a)

pub delivery_due : (c : Config) (lines : List ScheduleLine) (n : ℕ) (e : InEpoch) (x : Numbered) (w : World) → (d : Delivery c lines n e x w) → (s : ℕ) (o : Offer) → (due : IsDueTo c e (arrives c n x w) s o) → DueOr c e w (arrives c n x w) x.packet.to d.view s o due
delivery_due c lines n e x w d s o due = due_before c lines n e x w d (taken_so c lines n e x w d) s o due

-- ---- a packet that no member takes ----

-- what a member is to hold then it was to hold before
pub passed_due : (c : Config) (n : ℕ) (e : InEpoch) (x : Numbered) (w : World) → IsPassed c n e x w → (s : ℕ) (o : Offer) → IsDueTo c e (arrives c n x w) s o → IsDueTo c e w s o
passed_due c n e x w k s o due = (let h : IsToHold c e (place_at (arrives c n x w)) s o = due.hold in record {
  hold = record {
    file_known = h.file_known;
    known = record { css = h.known.css; synced = h.known.synced; view = h.known.view; here = sym (k.passes.same h.known.css (sync_is c e o.file.group h.known.css h.known.synced).1) ∙ h.known.here; table = h.known.table; found = h.known.found; is_row = h.known.is_row };
    version = h.version;
    only = h.only;
    stamp = h.stamp;
    vector = h.vector;
    in_set = h.in_set;
  };
  started = due.started;
})

-- What a site does in its epoch keeps its facts of instances: each role's part, and each packet.
use Rattle.std.proofs.Common.{◌≡◌, ◌≤◌, ℕ, ◌+◌, ◌==◌, nat_lt, Bool, true, false, List, [], ◌∷◌, Option, Some, None, refl, sym, subst, ◌⊎◌, inl, inr, arith}
use Rattle.std.proofs.lemmas.Bool.Decides.{nat_tests}
use Rattle.locus_ids.specs.declared.ids.EpochId.{EpochId}
use Rattle.locus_ids.specs.declared.config.Config.{Config}
use Rattle.locus_ids.specs.Sizes.{sites_max}
use Rattle.wire_messages.specs.declared.packet.Packet.{Packet}
use Rattle.wire_messages.specs.declared.body.Body.{Body}
use Rattle.wire_messages.specs.declared.body.Body.TheVariants as body
use Rattle.role_steps.specs.Own.{Every}
use Rattle.role_steps.specs.Tables.{row, with_row, without_row, first_that}
use Rattle.role_steps.specs.Views.{Frame, Store, Users, SiteView, Outcome, quiet, and_then, within, boot_in}
use Rattle.role_steps.specs.Reports.{on_report, on_open, on_look, on_closed, on_have}
use Rattle.role_steps.specs.Opens.{OpenRequest, on_opened}
use Rattle.role_steps.specs.Looks.{LookRequest}
use Rattle.role_steps.specs.Storage.{StoreRequest, instance_of, on_open_ss, on_close, on_closed_ok}
use Rattle.role_steps.specs.Operations.{on_op, on_read_held}
use Rattle.role_steps.specs.Pulling.{pull_repeats}
use Rattle.role_steps.specs.Using.{on_open_done, on_op_done, on_as_held, on_close_done, on_look_done}
use Rattle.role_steps.specs.Epochs.{frame_in, with_users}
use Rattle.role_steps.specs.Adoption.{table_group, with_table, with_store}
use Rattle.role_steps.specs.Mends.{mending, kept_stamps}
use Rattle.role_steps.specs.declared.pulls.Pull.{Pull}
use Rattle.role_steps.specs.declared.rounds.InEpoch.{InEpoch}
use Rattle.role_steps.specs.declared.rounds.Round.{Round}
use Rattle.role_steps.specs.declared.synchronizing.SyncTable.{SyncTable}
use Rattle.role_steps.proofs.Sending.{every_append}
use Rattle.the_run.specs.Kept.{Among}
use Rattle.run_laws.specs.Walks.Kinds.{IsOfReader, IsStoreAnswer}
use Rattle.run_laws.specs.Walks.Laws.{Law, body_law, ReadersKeep}
use Rattle.the_run.specs.Roles.{IsForTable, IsForStore, IsForUser}
use Rattle.the_run.specs.Steps.{from_user, group_of, at_table_of, is_opened_in, takes_inside, with_pulls}
use Rattle.the_run.proofs.InsideSync.{Found, first_found}
use Rattle.the_run.proofs.Roles.{by_role, readers_by, pulls_by}
use Rattle.run_laws.proofs.Walks.RoleWalks.{pull_repeats_walk}
use Rattle.site_laws.proofs.Vectors.SyncFacts.{FoundAt, row_at}
use Rattle.site_laws.specs.Packs.InstanceBook.{Note, Listed, Asked, Placed, Began, Book, IsOf, AskedBy, Sound, Grown}
use Rattle.site_laws.specs.Packs.InstanceFacts.{OpenSsFact, AnswerFact, BodyFact, PacketFact, NoFact, Factless, ToldFact, UsersFact, own_serial, TableFact, TablesFact, PassedNote, Passed, InsideFact, InEpochFact, RoundFact, ViewFact, Fine}
use Rattle.site_laws.proofs.Packs.InstanceBooks.{Leads, grown_same, grown_then, grown_weaker, stood, factless, packets_later, tolds_later, users_later, store_later, table_later, tables_later, inside_later}
use Rattle.site_laws.proofs.Packs.InstanceUsersFacts.{AskedHere, on_open_done_fine, on_op_done_fine, on_as_held_fine, on_close_done_fine, on_look_done_fine}
use Rattle.site_laws.proofs.Packs.InstanceStoreFacts.{BeganHere, StoreFine, store_fine, on_open_ss_fine, on_close_plain, on_closed_ok_plain, on_op_plain, on_read_held_plain}
use Rattle.site_laws.proofs.Packs.InstanceSyncFacts.{PlacedHere, InTable, TableFine, on_opened_fine}
use Rattle.site_laws.proofs.Packs.InstanceSyncEvents.{on_report_fine, on_open_fine, on_look_fine, on_closed_fine, on_have_fine}

-- ---- outcomes of a site ----

abbrev pub InSite : Config → ℕ → ℕ → Book → SiteView → Type 0
InSite c me boot book v = ViewFact c book me v × (v.boot ≡ boot)

abbrev pub SiteFine : Config → ℕ → ℕ → Book → Outcome SiteView → Type 0
SiteFine c me boot book o = Fine (IsOf me boot) (InSite c me boot) c book o

-- one thing, and then another
pub then_site : (c : Config) (me boot : ℕ) (book : Book) (o : Outcome SiteView) (g : SiteView → Outcome SiteView) → (h : SiteFine c me boot book o) →
    ((b : Book) → Sound c b → Leads book b → ViewFact c b me o.view → SiteFine c me o.view.boot b (g o.view)) → SiteFine c me boot book (and_then o g)
then_site c me boot book o g h next =
    let k : SiteFine c me boot h.book (g o.view) = subst (λ (b : ℕ). SiteFine c me b h.book (g o.view)) h.view.1 (next h.book h.sound h.grown.leads h.view.0) in
    record {
      book = k.book;
      grown = grown_then (IsOf me boot) book h.book k.book h.grown k.grown;
      sound = k.sound;
      view = k.view;
      sent = every_append (PacketFact k.book) o.sent (g o.view).sent (packets_later h.book k.book k.grown.leads o.sent h.sent) k.sent;
      told = every_append (ToldFact k.book) o.told (g o.view).told (tolds_later h.book k.book k.grown.leads o.told h.told) k.told;
    }

-- what a view has beside what the facts speak of in an epoch
abbrev pub beside : SiteView → Users → Option Round → List Pull → Store → List ℕ → List ℕ → SiteView
beside v u r ps s installs reports = record v { users = u; round = r; pulls = ps; store = record s { instances = v.store.instances }; installs = installs; reports = reports }

inside_beside : (c : Config) (book : Book) (me : ℕ) (v : SiteView) (u : Users) (r : Option Round) (ps : List Pull) (s : Store) (installs reports : List ℕ) (o : Option InEpoch) → InEpochFact c book me v o → InEpochFact c book me (beside v u r ps s installs reports) o
inside_beside c book me v u r ps s installs reports None h = h
inside_beside c book me v u r ps s installs reports (Some e) h = record { listed = h.listed; here = h.here; store = record { instances = h.store.instances; has = h.store.has }; tables = h.tables }

pub view_beside : (c : Config) (book : Book) (me : ℕ) (v : SiteView) (u : Users) (r : Option Round) (ps : List Pull) (s : Store) (installs reports : List ℕ) → UsersFact book me v.boot u → RoundFact me v.boot r → ViewFact c book me v → ViewFact c book me (beside v u r ps s installs reports)
view_beside c book me v u r ps s installs reports k q h = record { users = k; round = q; passed = h.passed; inside = inside_beside c book me v u r ps s installs reports v.epoch h.inside }

-- an outcome that makes no note
pub plain_site : (c : Config) (me boot : ℕ) (book : Book) (o : Outcome SiteView) → Sound c book → InSite c me boot book o.view → Every (PacketFact book) o.sent → Every (ToldFact book) o.told → SiteFine c me boot book o
plain_site c me boot book o s h sent told = record { book = book; grown = grown_same (IsOf me boot) book; sound = s; view = h; sent = sent; told = told }

pub quiet_site : (c : Config) (me : ℕ) (book : Book) (v : SiteView) → Sound c book → ViewFact c book me v → SiteFine c me v.boot book (quiet v)
quiet_site c me book v s h = plain_site c me v.boot book (quiet v) s (h, refl) tt tt

pub inside_of : (c : Config) (book : Book) (me : ℕ) (v : SiteView) (e : InEpoch) → v.epoch ≡ Some e → ViewFact c book me v → InsideFact c book me v e
inside_of c book me v e here h = subst (InEpochFact c book me v) here h.inside

-- ---- the using site ----

asked_own : (me boot : ℕ) (n : Note) → AskedHere me boot n → IsOf me boot n
asked_own me boot (Listed e members) h = absurd h
asked_own me boot (Asked us b serial file how) h = h
asked_own me boot (Placed e inst group css b ss) h = absurd h
asked_own me boot (Began e inst ss b file) h = absurd h

asked_passed : (me boot : ℕ) (v : SiteView) (n : Note) → AskedHere me boot n → PassedNote v n
asked_passed me boot v (Listed e members) h = absurd h
asked_passed me boot v (Asked us b serial file how) h = tt
asked_passed me boot v (Placed e inst group css b ss) h = absurd h
asked_passed me boot v (Began e inst ss b file) h = absurd h

either_passed : (New : Note → Type 0) (book : Book) (v : SiteView) (n : Note) → (Among n book → PassedNote v n) → (New n → PassedNote v n) → Among n book ⊎ New n → PassedNote v n
either_passed New book v n old new (inl k) = old k
either_passed New book v n old new (inr k) = new k

pub users_part : (c : Config) (me : ℕ) (book : Book) (v : SiteView) (o : Outcome Users) → ViewFact c book me v → Fine (AskedHere me v.boot) (λ (b : Book) (u : Users). UsersFact b me v.boot u) c book o → SiteFine c me v.boot book (record { view = with_users v o.view; sent = o.sent; told = o.told; written = o.written })
users_part c me book v o h k = record {
  book = k.book;
  grown = grown_weaker New (IsOf me v.boot) book k.book (asked_own me v.boot) k.grown;
  sound = k.sound;
  view = (
    record {
      users = k.view;
      round = h.round;
      passed = λ n g own. either_passed New book v n (λ old. h.passed n old own) (asked_passed me v.boot v n) (k.grown.fresh n g);
      inside = inside_beside c k.book me v o.view v.round v.pulls v.store v.installs v.reports v.epoch (inside_later c book k.book k.grown.leads me v v.epoch (λ e inst file g. stood New book k.book _ k.grown (λ x. x) g) (λ e inst group ss g. stood New book k.book _ k.grown (λ x. x) g) h.inside);
    },
    refl,
  );
  sent = k.sent;
  told = k.told;
}
  where
    New : Note → Type 0
    New = AskedHere me v.boot

-- ---- the storage site ----

began_own : (f : Frame) (n : Note) → BeganHere f n → IsOf f.me f.boot n
began_own f (Listed e members) h = absurd h
began_own f (Asked us b serial file how) h = absurd h
began_own f (Placed e inst group css b ss) h = absurd h
began_own f (Began e inst ss b file) h = (h.1, h.2)

began_passed : (f : Frame) (v : SiteView) (n : Note) → Passed v f.epoch → BeganHere f n → PassedNote v n
began_passed f v (Listed e members) p h = absurd h
began_passed f v (Asked us b serial file how) p h = absurd h
began_passed f v (Placed e inst group css b ss) p h = absurd h
began_passed f v (Began e inst ss b file) p h = subst (Passed v) (sym h.0) p

store_part : (c : Config) (me : ℕ) (book : Book) (v : SiteView) (e : InEpoch) (o : Outcome Store) → v.epoch ≡ Some e → ViewFact c book me v → StoreFine (frame_in c me v.boot e) book o → SiteFine c me v.boot book (record { view = with_store v o.view; sent = o.sent; told = o.told; written = o.written })
store_part c me book v e o here h k = record {
  book = k.book;
  grown = grown_weaker New (IsOf me v.boot) book k.book (began_own f) k.grown;
  sound = k.sound;
  view = (
    record {
      users = users_later book k.book k.grown.leads me v.boot v.users (λ serial file how g. stood New book k.book _ k.grown (λ x. x) g) h.users;
      round = h.round;
      passed = λ n g own. either_passed New book v n (λ old. h.passed n old own) (began_passed f v n inside.here) (k.grown.fresh n g);
      inside = subst (InEpochFact c k.book me (with_store v o.view)) (sym here) (record {
        listed = k.grown.leads _ inside.listed;
        here = inside.here;
        store = k.view;
        tables = tables_later book k.book k.grown.leads f 0 v.tables (λ inst group ss g. stood New book k.book _ k.grown (λ x. x) g) inside.tables;
      });
    },
    refl,
  );
  sent = k.sent;
  told = k.told;
}
  where
    f : Frame
    f = frame_in c me v.boot e

    New : Note → Type 0
    New = BeganHere f

    inside : InsideFact c book me v e
    inside = inside_of c book me v e here h

-- ---- the synchronization site ----

placed_own : (f : Frame) (group : ℕ) (n : Note) → PlacedHere f group n → IsOf f.me f.boot n
placed_own f group (Listed e members) h = absurd h
placed_own f group (Asked us b serial file how) h = absurd h
placed_own f group (Placed e inst g css b ss) h = (h.2, h.3)
placed_own f group (Began e inst ss b file) h = absurd h

placed_passed : (f : Frame) (group : ℕ) (v : SiteView) (n : Note) → Passed v f.epoch → PlacedHere f group n → PassedNote v n
placed_passed f group v (Listed e members) p h = absurd h
placed_passed f group v (Asked us b serial file how) p h = absurd h
placed_passed f group v (Placed e inst g css b ss) p h = subst (Passed v) (sym h.0) p
placed_passed f group v (Began e inst ss b file) p h = absurd h

abbrev Keeps : Frame → ℕ → Book → Book → Type 0
Keeps f group a b = (t : SyncTable) → (t.group ≡ group → ⊥) → TableFact a f t → TableFact b f t

-- tables of higher groups
tables_above : (f : Frame) (group : ℕ) (a b : Book) (low : ℕ) (ts : List SyncTable) → Keeps f group a b → group + 1 ≤ low → TablesFact a f low ts → TablesFact b f low ts
tables_above f group a b low [] keeps le h = tt
tables_above f group a b low (t ∷ ts) keeps le h = (h.0, keeps t (other t.group h.0) h.1, tables_above f group a b (t.group + 1) ts keeps (higher t.group h.0) h.2)
  where
    other : (x : ℕ) → low ≤ x → x ≡ group → ⊥
    other x k e = omega (arith, le, k, e)

    higher : (x : ℕ) → low ≤ x → group + 1 ≤ x + 1
    higher x k = omega (arith, le, k)

tables_put : (f : Frame) (group : ℕ) (a b : Book) (low : ℕ) (u : SyncTable) (ts : List SyncTable) → Keeps f group a b → InTable f group b u → low ≤ u.group → TablesFact a f low ts → TablesFact b f low (with_row table_group u ts)
tables_put f group a b low u [] keeps k le h = (le, k.0, tt)
tables_put f group a b low u (y ∷ ys) keeps k le h =
    (elim (nat_lt y.group u.group) as (λ t. nat_lt y.group u.group ≡ t → TablesFact b f low (elim t [ true ↦ y ∷ with_row table_group u ys | false ↦ elim (y.group == u.group) [ true ↦ u ∷ ys | false ↦ u ∷ y ∷ ys ] ])) [
      | true ↦ λ e. (h.0, keeps y (below e) h.1, tables_put f group a b (y.group + 1) u ys keeps k (rises e) h.2)
      | false ↦ λ e. (elim (y.group == u.group) as (λ t. (y.group == u.group) ≡ t → TablesFact b f low (elim t [ true ↦ u ∷ ys | false ↦ u ∷ y ∷ ys ])) [
        | true ↦ λ q. (le, k.0, subst (λ (n : ℕ). TablesFact b f (n + 1) ys) (same q) (tables_above f group a b (y.group + 1) ys keeps (reaches q) h.2))
        | false ↦ λ q. (le, k.0, (above e q, keeps y (differs q) h.1, tables_above f group a b (y.group + 1) ys keeps (passes e q) h.2))
      ]) refl
    ]) refl
  where
    below : nat_lt y.group u.group ≡ true → y.group ≡ group → ⊥
    below e q = let g : u.group ≡ group = k.1 in below_at y.group u.group group e g q
      where
        below_at : (x z n : ℕ) → nat_lt x z ≡ true → z ≡ n → x ≡ n → ⊥
        below_at x z n e g q = grind (arith, nat_tests)

    rises : nat_lt y.group u.group ≡ true → y.group + 1 ≤ u.group
    rises e = grind (arith, nat_tests)

    same : (y.group == u.group) ≡ true → y.group ≡ u.group
    same q = grind (arith, nat_tests)

    reaches : (y.group == u.group) ≡ true → group + 1 ≤ y.group + 1
    reaches q = let a : y.group ≡ u.group = same q in let g : u.group ≡ group = k.1 in omega (arith, a, g)

    lower : nat_lt y.group u.group ≡ false → (y.group == u.group) ≡ false → u.group + 1 ≤ y.group
    lower e q = grind (arith, nat_tests)

    above : nat_lt y.group u.group ≡ false → (y.group == u.group) ≡ false → u.group + 1 ≤ y.group
    above e q = lower e q

    passes : nat_lt y.group u.group ≡ false → (y.group == u.group) ≡ false → group + 1 ≤ y.group + 1
    passes e q = let a : u.group + 1 ≤ y.group = lower e q in let g : u.group ≡ group = k.1 in omega (arith, a, g)

    differs : (y.group == u.group) ≡ false → y.group ≡ group → ⊥
    differs q z = let g : u.group ≡ group = k.1 in differs_at y.group u.group group q g z
      where
        differs_at : (x w n : ℕ) → (x == w) ≡ false → w ≡ n → x ≡ n → ⊥
        differs_at x w n q g z = grind (arith, nat_tests)

pub every_table : (book : Book) (f : Frame) (low : ℕ) (ts : List SyncTable) → TablesFact book f low ts → Every (TableFact book f) ts
every_table book f low [] h = tt
every_table book f low (t ∷ ts) h = (h.1, every_table book f (t.group + 1) ts h.2)

-- the tables of a view, with one put in its place
pub tables_with : (c : Config) (me : ℕ) (a b : Book) (v : SiteView) (e : InEpoch) (group : ℕ) (u : SyncTable) → Grown (PlacedHere (frame_in c me v.boot e) group) a b → InTable (frame_in c me v.boot e) group b u → TablesFact a (frame_in c me v.boot e) 0 v.tables → TablesFact b (frame_in c me v.boot e) 0 (with_row table_group u v.tables)
tables_with c me a b v e group u grown k h = tables_put f group a b 0 u v.tables (λ t differs g. table_later a b grown.leads f t (λ inst ss n. stood (PlacedHere f group) a b _ grown (λ new. differs new.1) n) g) k (omega arith) h
  where
    f : Frame
    f = frame_in c me v.boot e

table_part : (c : Config) (me : ℕ) (book : Book) (v : SiteView) (e : InEpoch) (group : ℕ) (o : Outcome SyncTable) → v.epoch ≡ Some e → ViewFact c book me v → TableFine (frame_in c me v.boot e) group book o → SiteFine c me v.boot book (record { view = with_table o.view v; sent = o.sent; told = o.told; written = o.written })
table_part c me book v e group o here h k = record {
  book = k.book;
  grown = grown_weaker New (IsOf me v.boot) book k.book (placed_own f group) k.grown;
  sound = k.sound;
  view = (
    record {
      users = users_later book k.book k.grown.leads me v.boot v.users (λ serial file how g. stood New book k.book _ k.grown (λ x. x) g) h.users;
      round = h.round;
      passed = λ n g own. either_passed New book v n (λ old. h.passed n old own) (placed_passed f group v n inside.here) (k.grown.fresh n g);
      inside = subst (InEpochFact c k.book me (with_table o.view v)) (sym here) (record {
        listed = k.grown.leads _ inside.listed;
        here = inside.here;
        store = store_later book k.book k.grown.leads e.id me v.boot v.store (λ inst file g. stood New book k.book _ k.grown (λ x. x) g) inside.store;
        tables = tables_with c me book k.book v e group o.view k.grown k.view inside.tables;
      });
    },
    refl,
  );
  sent = k.sent;
  told = k.told;
}
  where
    f : Frame
    f = frame_in c me v.boot e

    New : Note → Type 0
    New = PlacedHere f group

    inside : InsideFact c book me v e
    inside = inside_of c book me v e here h

at_part : (c : Config) (me : ℕ) (book : Book) (v : SiteView) (e : InEpoch) (g : SyncTable → Outcome SyncTable) (o : Option SyncTable) → v.epoch ≡ Some e → Sound c book → ViewFact c book me v → ((t : SyncTable) → o ≡ Some t → TableFine (frame_in c me v.boot e) t.group book (g t)) → SiteFine c me v.boot book (at_table_of g o v)
at_part c me book v e g None here s h fine = quiet_site c me book v s h
at_part c me book v e g (Some t) here s h fine = table_part c me book v e t.group (g t) here h (fine t refl)

found_is : {A : Type 0} (P : A → Type 0) (key : A → ℕ) (k : ℕ) (o : Option A) (x : A) → FoundAt P key k o → o ≡ Some x → (key x ≡ k) × P x
found_is P key k o x h e = subst (FoundAt P key k) e h

one_found : {A : Type 0} (P : A → Type 0) (o : Option A) (x : A) → Found P o → o ≡ Some x → P x
one_found P o x h e = subst (Found P) e h

-- at the table of a group
group_part : (c : Config) (me : ℕ) (book : Book) (v : SiteView) (e : InEpoch) (g : SyncTable → Outcome SyncTable) (group : ℕ) → v.epoch ≡ Some e → Sound c book → ViewFact c book me v → ((t : SyncTable) → t.group ≡ group → TableFact book (frame_in c me v.boot e) t → TableFine (frame_in c me v.boot e) t.group book (g t)) → SiteFine c me v.boot book (at_table_of g (row table_group group v.tables) v)
group_part c me book v e g group here s h fine =
    at_part c me book v e g (row table_group group v.tables) here s h
    (λ t q. (let k : (t.group ≡ group) × TableFact book (frame_in c me v.boot e) t = found_is (TableFact book (frame_in c me v.boot e)) table_group group (row table_group group v.tables) t (row_at (TableFact book (frame_in c me v.boot e)) table_group group v.tables (every_table book (frame_in c me v.boot e) 0 v.tables (inside_of c book me v e here h).tables)) q in fine t k.0 k.1))

-- at the table that has the instance
with_part : (c : Config) (me : ℕ) (book : Book) (v : SiteView) (e : InEpoch) (g : SyncTable → Outcome SyncTable) (test : SyncTable → Bool) → v.epoch ≡ Some e → Sound c book → ViewFact c book me v → ((t : SyncTable) → TableFact book (frame_in c me v.boot e) t → TableFine (frame_in c me v.boot e) t.group book (g t)) → SiteFine c me v.boot book (at_table_of g (first_that test v.tables) v)
with_part c me book v e g test here s h fine =
    at_part c me book v e g (first_that test v.tables) here s h
    (λ t q. fine t (one_found (TableFact book (frame_in c me v.boot e)) (first_that test v.tables) t (first_found (TableFact book (frame_in c me v.boot e)) test v.tables (every_table book (frame_in c me v.boot e) 0 v.tables (inside_of c book me v e here h).tables)) q))

-- ---- readers and pulls: a law by kinds ----

reader_factless : (b : Body) → IsOfReader b → NoFact b
reader_factless (body.LookDone call request take answer) h = tt
reader_factless (body.Pull file stamp page) h = tt
reader_factless (body.Want file wanted own) h = tt
reader_factless _ h = absurd h

answer_factless : (b : Body) → IsStoreAnswer b → NoFact b
answer_factless (body.Page file stamp page bytes) h = tt
answer_factless (body.Delta file wanted pages) h = tt
answer_factless (body.Have file stamp) h = tt
answer_factless _ h = absurd h

abbrev carrying : Book → Law
carrying book = body_law NoFact (ToldFact book) (λ w. Unit {0})

readers : (book : Book) (f : Frame) → ReadersKeep (carrying book) f
readers book f = record { sends = λ to b h. reader_factless b h; unwritten = tt }

pub pull_repeats_factless : (book : Book) (f : Frame) (ps : List Pull) → Every Factless (pull_repeats f ps)
pull_repeats_factless book f ps = pull_repeats_walk (carrying book) f (readers book f) ps

-- ---- packets inside the epoch ----

-- the packet passes the frame of this epoch of the site
pub record Passes (me : ℕ) (p : Packet) (v : SiteView) (e : InEpoch) : Type 0 where
  pub epoch : e.id ≡ p.epoch
  pub from_boot : boot_in e.members.boot p.from ≡ p.from_boot
  pub to : p.to ≡ me
  pub to_boot : p.to_boot ≡ v.boot

open_ss_here : (book : Book) (p : Packet) (me boot : ℕ) (id : EpochId) (r : StoreRequest) → id ≡ p.epoch → p.to ≡ me → p.to_boot ≡ boot → OpenSsFact book p.epoch p.to p.to_boot r.inst r.file r.mode → OpenSsFact book id me boot r.inst r.file r.mode
open_ss_here book p me boot id r e t b h = subst (λ (x : EpochId). OpenSsFact book x me boot r.inst r.file r.mode) (sym e) (subst (λ (x : ℕ). OpenSsFact book p.epoch me x r.inst r.file r.mode) b (subst (λ (x : ℕ). OpenSsFact book p.epoch x p.to_boot r.inst r.file r.mode) t h))

-- what the site makes of a packet with what it carries
abbrev Taken : Config → ℕ → Book → Packet → SiteView → Body → Outcome SiteView → Type 0
Taken c me book p v x o = BodyFact book p x → SiteFine c me v.boot book o

tables_fine : (c : Config) (me : ℕ) (book : Book) (p : Packet) (v : SiteView) (e : InEpoch) → v.epoch ≡ Some e → me ≤ sites_max → Sound c book → Passes me p v e → ViewFact c book me v → (x : Body) → IsForTable x → Taken c me book p v x (takes_inside (frame_in c me v.boot e) p.from x v)
tables_fine c me book p v e here small s q h (body.Report group copies) is k =
    group_part c me book v e (on_report (frame_in c me v.boot e) p.from copies) group here s h (λ t g a. on_report_fine (frame_in c me v.boot e) book p.from copies t s (inside_of c book me v e here h).listed a)
tables_fine c me book p v e here small s q h (body.Open serial call process request file how) is k =
    let o : OpenRequest = record { serial = serial; call = call; process = process; request = request; file = file; how = how } in
    let asked : AskedBy book e.members (own_serial p.from serial) file how = subst (λ (b : ℕ). Among (Asked p.from b serial file how) book) (sym q.from_boot) k in
    group_part c me book v e (on_open (frame_in c me v.boot e) p.from o) file.group here s h (λ t g a. on_open_fine (frame_in c me v.boot e) book p.from o t s (inside_of c book me v e here h).listed asked (sym g) a)
tables_fine c me book p v e here small s q h (body.Opened inst answer) is k =
    with_part c me book v e (on_opened (frame_in c me v.boot e) inst answer) (is_opened_in inst) here s h (λ t a. on_opened_fine (frame_in c me v.boot e) book inst answer t s (inside_of c book me v e here h).listed (subst (λ (i : EpochId). AnswerFact book i inst answer) (sym q.epoch) k) a)
tables_fine c me book p v e here small s q h (body.Closed inst made) is k = with_part c me book v e (on_closed (frame_in c me v.boot e) p.from inst made) (is_opened_in inst) here s h (λ t a. on_closed_fine (frame_in c me v.boot e) book p.from inst made t s a)
tables_fine c me book p v e here small s q h (body.Look call process request take file what) is k =
    let l : LookRequest = record { call = call; process = process; request = request; take = take; file = file; what = what } in
    group_part c me book v e (on_look (frame_in c me v.boot e) p.from l) file.group here s h (λ t g a. on_look_fine (frame_in c me v.boot e) book p.from l t s a)
tables_fine c me book p v e here small s q h (body.Have file stamp) is k = group_part c me book v e (on_have p.from file stamp) file.group here s h (λ t g a. on_have_fine (frame_in c me v.boot e) book p.from file stamp t s a)
tables_fine c me book p v e here small s q h _ is k = absurd is

stores_fine : (c : Config) (me : ℕ) (book : Book) (p : Packet) (v : SiteView) (e : InEpoch) → v.epoch ≡ Some e → me ≤ sites_max → Sound c book → Passes me p v e → ViewFact c book me v → (x : Body) → IsForStore x → Taken c me book p v x (takes_inside (frame_in c me v.boot e) p.from x v)
stores_fine c me book p v e here small s q h (body.OpenSs inst file mode set kind base vector parents) is k =
    let r : StoreRequest = record { inst = inst; file = file; mode = mode; set = set; kind = kind; base = base; vector = vector; parents = parents } in
    store_part c me book v e (on_open_ss (frame_in c me v.boot e) r v.store) here h (on_open_ss_fine (frame_in c me v.boot e) book r v.store s (open_ss_here book p me v.boot e.id r q.epoch q.to q.to_boot k) (inside_of c book me v e here h).store)
stores_fine c me book p v e here small s q h (body.Op serial n o seen) is k =
    store_part c me book v e (on_op (frame_in c me v.boot e) (mending v (group_of (instance_of v.store (from_user p.from serial)))) (from_user p.from serial) n o seen v.store) here h (store_fine (frame_in c me v.boot e) book _ s (on_op_plain (frame_in c me v.boot e) book (mending v (group_of (instance_of v.store (from_user p.from serial)))) (from_user p.from serial) n o seen v.store (inside_of c book me v e here h).store))
stores_fine c me book p v e here small s q h (body.ReadHeld serial n at len) is k =
    store_part c me book v e (on_read_held (frame_in c me v.boot e) (from_user p.from serial) n at len v.store) here h (store_fine (frame_in c me v.boot e) book _ s (on_read_held_plain (frame_in c me v.boot e) book (from_user p.from serial) n at len v.store (inside_of c book me v e here h).store))
stores_fine c me book p v e here small s q h (body.Close serial) is k = store_part c me book v e (on_close (frame_in c me v.boot e) (from_user p.from serial) v.store) here h (store_fine (frame_in c me v.boot e) book _ s (on_close_plain (frame_in c me v.boot e) book (from_user p.from serial) v.store (inside_of c book me v e here h).store))
stores_fine c me book p v e here small s q h (body.ClosedOk inst) is k = store_part c me book v e (on_closed_ok (frame_in c me v.boot e) inst v.store) here h (store_fine (frame_in c me v.boot e) book _ s (on_closed_ok_plain (frame_in c me v.boot e) book inst v.store (inside_of c book me v e here h).store))
stores_fine c me book p v e here small s q h _ is k = absurd is

users_fine : (c : Config) (me : ℕ) (book : Book) (p : Packet) (v : SiteView) (e : InEpoch) → v.epoch ≡ Some e → me ≤ sites_max → Sound c book → Passes me p v e → ViewFact c book me v → (x : Body) → IsForUser x → Taken c me book p v x (takes_inside (frame_in c me v.boot e) p.from x v)
users_fine c me book p v e here small s q h (body.OpenDone serial answer) is k = users_part c me book v (on_open_done (frame_in c me v.boot e) (kept_stamps v) serial answer v.users) h (on_open_done_fine (frame_in c me v.boot e) book (kept_stamps v) serial answer v.users small s h.users)
users_fine c me book p v e here small s q h (body.OpDone serial n result) is k = users_part c me book v (on_op_done (frame_in c me v.boot e) serial n result v.users) h (on_op_done_fine (frame_in c me v.boot e) book serial n result v.users small s h.users)
users_fine c me book p v e here small s q h (body.AsHeld serial n len) is k = users_part c me book v (on_as_held (frame_in c me v.boot e) serial n v.users) h (on_as_held_fine (frame_in c me v.boot e) book serial n v.users small s h.users)
users_fine c me book p v e here small s q h (body.CloseDone serial answer) is k = users_part c me book v (on_close_done (frame_in c me v.boot e) serial answer v.users) h (on_close_done_fine (frame_in c me v.boot e) book serial answer v.users small s h.users)
users_fine c me book p v e here small s q h (body.LookDone call request take answer) is k = users_part c me book v (on_look_done (frame_in c me v.boot e) call request take answer v.users) h (on_look_done_fine (frame_in c me v.boot e) book call request take answer v.users small s h.users)
users_fine c me book p v e here small s q h _ is k = absurd is

pub inside_fine : (c : Config) (me : ℕ) (book : Book) (p : Packet) (v : SiteView) (e : InEpoch) (x : Body) → v.epoch ≡ Some e → me ≤ sites_max → Sound c book → Passes me p v e → BodyFact book p x → ViewFact c book me v → SiteFine c me v.boot book (takes_inside (frame_in c me v.boot e) p.from x v)
inside_fine c me book p v e x here small s q k h = by_role (Taken c me book p v) f p.from v (record {
  tables = tables_fine c me book p v e here small s q h;
  stores = stores_fine c me book p v e here small s q h;
  readers = readers_by (Taken c me book p v) (carrying book) f p.from v (readers book f) answer_factless (λ y o is same part k. plain_site c me v.boot book (within (with_store v) o) s (subst (λ (u : Store). ViewFact c book me (with_store v u)) (sym same) h, refl) (factless book o.sent part.0) part.1);
  users = users_fine c me book p v e here small s q h;
  pulls = pulls_by (Taken c me book p v) (carrying book) f p.from v (readers book f) answer_factless (λ y o is part k. plain_site c me v.boot book (within (with_pulls v) o) s (view_beside c book me v v.users v.round o.view v.store v.installs v.reports h.users h.round h, refl) (factless book o.sent part.0) part.1);
  reported = λ group k. plain_site c me v.boot book (takes_inside f p.from (body.ReportOk group) v) s (view_beside c book me v v.users v.round v.pulls v.store v.installs (without_row (λ g. g) group v.reports) h.users h.round h, refl) tt tt;
  forming = λ y is k. quiet_site c me book v s h;
}) x k
  where
    f : Frame
    f = frame_in c me v.boot e

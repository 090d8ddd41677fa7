-- A site that joins an epoch has no calls, no instances and new tables: nothing stands of the groups that it synchronizes.
use Rattle.std.proofs.Common.{◌≡◌, ℕ, ◌-◌, ◌==◌, Bool, true, false, ◌&&◌, cond, List, [], ◌∷◌, filter, map, Option, Some, None, refl, sym, ap, ◌∙◌, subst, inl, inr, arith}
use Rattle.std.proofs.lemmas.Nat.Bits.{bit_at_above}
use Rattle.std.specs.List.{find, list_any}
use Rattle.std.specs.Option.{is_some}
use Rattle.role_steps.proofs.of_plain_facts.Numbers.{equal, equal_self}
use Rattle.role_steps.proofs.of_plain_facts.Options.{some_same}
use Rattle.role_steps.proofs.of_plain_facts.Tests.{and_first, and_second, true_false}
use Rattle.locus_ids.specs.Sites.{has}
use Rattle.locus_ids.specs.declared.config.Config.{Config}
use Rattle.locus_ids.specs.declared.ids.CallId.{CallId}
use Rattle.locus_ids.specs.declared.ids.EpochId.{EpochId}
use Rattle.locus_ids.specs.declared.ids.FileId.{FileId}
use Rattle.locus_ids.specs.declared.ids.Serial.{Serial}
use Rattle.locus_ids.specs.declared.sites.Members.{Members}
use Rattle.commit_graph.specs.Versions.{same_file}
use Rattle.trace_book.specs.Same.{same_epoch}
use Rattle.trace_book.specs.declared.record.Record.TheVariants as says
use Rattle.role_steps.specs.Adoption.{table_group}
use Rattle.role_steps.specs.Epochs.{frame_in, is_sync_site, joined_view, joins, own_groups}
use Rattle.role_steps.specs.Own.{Every}
use Rattle.role_steps.specs.Pulling.{pull_key}
use Rattle.role_steps.specs.Reports.{new_table}
use Rattle.role_steps.specs.Requests.{instance_serial, waiting_key}
use Rattle.role_steps.specs.Storage.{instance_key}
use Rattle.role_steps.specs.Tables.{row}
use Rattle.role_steps.specs.Views.{Frame, SiteView, Told, Shown, all_groups, pack_sites}
use Rattle.role_steps.specs.declared.users.UserInstance.{UserInstance}
use Rattle.the_run.specs.Worlds.{Line}
use Rattle.tree_model.specs.declared.accepted.Waiting.{Waiting}
use Rattle.tree_model.specs.Calls.{waiting}
use Rattle.tree_model.specs.Epochs.{epoch_of, members_of}
use Rattle.tree_model.specs.Packs.{all_sites, has_pack, is_member_of, sync_site}
use Rattle.tree_model.specs.State.{has_number}
use Rattle.tree_model.specs.Tree.{joined, left, tree_of}
use Rattle.lawful_trace.specs.CallRows.{has_lost_mend, is_this}
use Rattle.lawful_trace.specs.SiteRows.{MayJoin}
use Rattle.tree_laws.specs.Deltas.{StepsFact}
use Rattle.tree_laws.specs.Doing.{FrameFact, NoWrite, PullsFact, StoreHeld}
use Rattle.tree_laws.specs.Following.{MayTell}
use Rattle.tree_laws.specs.Instances.{IsStarted}
use Rattle.tree_laws.specs.Past.{WasBegun}
use Rattle.tree_laws.specs.Printed.{entries}
use Rattle.tree_laws.specs.Stores.{AreApart, Ascends, InstanceFact}
use Rattle.tree_laws.specs.Tables.{TableFact, Turn, last_turn}
use Rattle.tree_laws.specs.Users.{UserInstanceFact, WaitingFact}
use Rattle.tree_laws.proofs.Names.{same_epoch_own}
use Rattle.tree_laws.proofs.Rows.{followed_rows}
use Rattle.store_laws.proofs.of_tree_laws.Orders.Joining.{no_pack_comes}
use Rattle.store_laws.specs.Users.Leaving.{AreApart as CallsApart}
use Rattle.store_laws.proofs.of_tree_laws.Syncs.Members.{table_boot}
use Rattle.store_laws.specs.OneTree.Places.{InsideFact, OutsideFact, SiteFact, SiteFine, UsersOf}
use Rattle.store_laws.specs.OneTree.Rest.{AllRest, Past, RestTold, more}
use Rattle.store_laws.specs.OneTree.Roles.{EpochsDo}
use Rattle.store_laws.proofs.OneTree.Composing.{past_more}
use Rattle.store_laws.proofs.OneTree.Frames.{copies_frame}
use Rattle.rest_laws.proofs.EpochTreeReports.{reports_sent}
use Rattle.rest_laws.proofs.EpochTreeStarted.{begun_joined, looked_started, lost_started, named_started, unstarted_openers}

-- ---- lists ----

cond_own : {A : Type 0} (s : ℕ) (x y : A) → cond (s == s) x y ≡ x
cond_own s x y = ap (λ (b : Bool). cond b x y) (equal_self s)

found_passes : {A : Type 0} (p : A → Bool) (xs : List A) (x : A) → find p xs ≡ Some x → p x ≡ true
found_passes p [] x k = absurd cc
found_passes {A} p (y ∷ ys) x k = at (p y) refl k (found_passes p ys x)
  where
    at : (b : Bool) → p y ≡ b → cond b (Some y) (find p ys) ≡ Some x → (find p ys ≡ Some x → p x ≡ true) → p x ≡ true
    at true e k later = subst (λ (z : A). p z ≡ true) (some_same y x k) e
    at false e k later = later k

-- no site has reported yet
nobody : (site : ℕ) → has (record { 0 = 0 }) site ≡ true → ⊥
nobody site k = true_false (sym k ∙ ap (λ (n : ℕ). n == 1) (bit_at_above 0 0 (site - 1) (omega arith) (omega arith)))

names_same : (gs : List ℕ) → map table_group (map new_table gs) ≡ gs
names_same [] = refl
names_same (g ∷ gs) = ap (λ (ns : List ℕ). g ∷ ns) (names_same gs)

none_found : (me process : ℕ) (d : CallId) (ws : List Waiting) → Every (λ (w : Waiting). w.site ≡ me → ⊥) ws → (w : Waiting) → find (is_this me process d) ws ≡ Some w → ⊥
none_found me process d [] h w k = absurd cc
none_found me process d (x ∷ xs) h w k = at (is_this me process d x) refl k (none_found me process d xs h.1 w)
  where
    at : (b : Bool) → is_this me process d x ≡ b → cond b (Some x) (find (is_this me process d) xs) ≡ Some w → (find (is_this me process d) xs ≡ Some w → ⊥) → ⊥
    at true e k later = h.0 (equal x.site me (and_first (x.site == me) _ (and_first ((x.site == me) && (x.process == process)) _ e)))
    at false e k later = later k

-- ---- the join ----

module _ (c : Config) (n : ℕ) (trace : List Line) (me : ℕ) (e : EpochId) (members : Members) (v : SiteView) (past : Past c trace) (h : OutsideFact c me trace v) (rest : RestTold c trace (Shown (says.Join me e members))) where
  abbrev x : Told
  x = Shown (says.Join me e members)

  abbrev now : List Line
  now = more n (Shown (says.Join me e members)) trace

  abbrev f : Frame
  f = frame_in c me v.boot (record { id = e; members = members })

  joining : MayJoin c (entries trace) me e members
  joining = rest.row

  may : MayTell c trace x
  may = record { row = rest.row; in_time = tt }

  after : Past c now
  after = past_more c n x trace past may rest

  -- no group of which the site has a pack has started
  unstarted : (g : ℕ) → has_pack c g me ≡ true → IsStarted c now e g → ⊥
  unstarted g pack k = true_false (sym pack ∙ no_pack_comes c (entries trace) past.rest.packs (followed_rows c trace past.followed) e g me members (before (same_epoch e (tree_of c e g (entries trace)).epoch) k) joining)
    where
      before : (b : Bool) → (cond b (joined me members (tree_of c e g (entries trace))) (left me (tree_of c e g (entries trace)))).started ≡ true → (tree_of c e g (entries trace)).started ≡ true
      before true k = k
      before false k = k

  frame : FrameFact c now f
  frame = record {
    config_is = refl;
    inside = cond_own me (Some e) (epoch_of (entries trace) me);
    members_are = ap (λ (b : Bool). cond b (Some members) (members_of (entries trace) e)) (same_epoch_own e);
    up = h.up;
    boot_is = h.users.always.boot_is;
    is_member = table_boot members me ∙ (joining.member ∙ sym h.users.always.boot_is);
  }

  -- ---- its users ----

  serves : (file : FileId) → sync_site c file.group (members_of (entries now) e) ≡ Some me → has_pack c file.group me ≡ true
  serves file k = and_second (is_member_of (members_of (entries now) e) me) _ (found_passes (λ (site : ℕ). is_member_of (members_of (entries now) e) site && has_pack c file.group site) all_sites me k)

  none_lost : (file : FileId) → sync_site c file.group (members_of (entries now) e) ≡ Some me → list_any (same_file file) v.users.hopeless ≡ has_lost_mend (entries now) e file
  none_lost file k = ap (λ (fs : List FileId). list_any (same_file file) fs) h.users.hopeless ∙ sym (over (has_lost_mend (entries now) e file) refl)
    where
      over : (b : Bool) → has_lost_mend (entries now) e file ≡ b → has_lost_mend (entries now) e file ≡ false
      over true q = absurd (unstarted file.group (serves file k) (lost_started c e file.group file refl now after.followed q))
      over false q = q

  users : UsersOf c f now v.users
  users = record {
    inside = record {
      always = record { boot_is = h.users.always.boot_is; calls = h.users.always.calls; serials = h.users.always.serials; descriptors = h.users.always.descriptors; ascends = h.users.always.ascends; cache = h.users.always.cache };
      inside = record {
        calls = subst (Every (WaitingFact c now f)) (sym h.users.calls) tt;
        instances = subst (Every (UserInstanceFact c now f)) (sym h.users.instances) tt;
        has = λ serial. ap (λ (is : List UserInstance). is_some (row instance_serial serial is)) h.users.instances ∙ sym (ap (λ (ns : List ℕ). has_number ns serial) h.users.idle.has_none);
        all = λ d process caller k. absurd (none_found me process d (waiting (entries trace)) h.users.idle.none_waits caller k);
        hopeless = none_lost;
        ascends = subst (Ascends waiting_key) (sym h.users.calls) tt;
        numbered = subst (Ascends instance_serial) (sym h.users.instances) tt;
      };
    };
    apart = subst CallsApart (sym h.users.calls) tt;
    waiting_ascends = subst (Ascends waiting_key) (sym h.users.calls) tt;
    instances_ascend = subst (Ascends instance_serial) (sym h.users.instances) tt;
    descriptors_ascend = h.users.descriptors_ascend;
  }

  -- ---- its disk ----

  store : StoreHeld c f now v.store
  store = record {
    copies = copies_frame c n x trace me v.store (record { past = past; may = may; rest = rest }) (λ at k. k) (λ k. k) h.copies;
    instances = record {
      instances = subst (Every (InstanceFact c now f)) (sym h.instances) tt;
      apart = subst (AreApart instance_key) (sym h.instances) tt;
      has = λ i file w. absurd (none i file w);
      steps = subst (StepsFact c now) (sym h.steps) tt;
    };
  }
    where
      none : (i : Serial) (file : FileId) → WasBegun now me e i file → ⊥
      none i file (inl w) = w
      none i file (inr w) = true_false (sym (begun_joined c me e i file trace past.followed w) ∙ joining.new)

  -- ---- its tables ----

  table_new : (g : ℕ) → has_pack c g me ≡ true → TableFact c now f (new_table g)
  table_new g pack = record {
    started = unstarted_is (tree_of c e g (entries now)).started refl;
    early = tt;
    early_here = tt;
    early_only = λ k. refl;
    all = λ k. absurd (started_new k);
    rows = tt;
    rise = tt;
    files = record {
      joined = λ site k. absurd (nobody site k.1);
      brought = λ site ino stamp k q. absurd (nobody site k.1);
      known = tt;
      holds = tt;
    };
    opens = tt;
    apart = tt;
    has = λ i w. absurd (unstarted g pack (named_started c e g i now after.followed w));
    openers_are = λ ino ne. sym (unstarted_openers c e g now (followed_rows c now after.followed) (unstarted g pack) (record { group = g; ino = ino }));
    turns = λ us process low. sym (no_turn us process (last_turn now e g us process) refl);
    looks = tt;
  }
    where
      started_new : false ≡ true → ⊥
      started_new k = cc

      unstarted_is : (b : Bool) → (tree_of c e g (entries now)).started ≡ b → false ≡ (tree_of c e g (entries now)).started
      unstarted_is true k = absurd (unstarted g pack k)
      unstarted_is false k = sym k

      no_turn : (us process : ℕ) (o : Option Turn) → last_turn now e g us process ≡ o → last_turn now e g us process ≡ None
      no_turn us process None k = k
      no_turn us process (Some l) k = absurd (unstarted g pack (looked_started c e g us process now after.followed l k))

  tables_new : (gs : List ℕ) → Every (TableFact c now f) (map new_table (filter (is_sync_site c me members) (filter (λ (g : ℕ). has (pack_sites c g) me) gs)))
  tables_new [] = tt
  tables_new (g ∷ gs) = at (has (pack_sites c g) me) refl (tables_new gs)
    where
      inner : (b : Bool) → has (pack_sites c g) me ≡ true → Every (TableFact c now f) (map new_table (filter (is_sync_site c me members) (filter (λ (k : ℕ). has (pack_sites c k) me) gs))) →
          Every (TableFact c now f) (map new_table (cond b (g ∷ filter (is_sync_site c me members) (filter (λ (k : ℕ). has (pack_sites c k) me) gs)) (filter (is_sync_site c me members) (filter (λ (k : ℕ). has (pack_sites c k) me) gs))))
      inner true pack later = (table_new g pack, later)
      inner false pack later = later

      at : (b : Bool) → has (pack_sites c g) me ≡ b → Every (TableFact c now f) (map new_table (filter (is_sync_site c me members) (filter (λ (k : ℕ). has (pack_sites c k) me) gs))) →
          Every (TableFact c now f) (map new_table (filter (is_sync_site c me members) (cond b (g ∷ filter (λ (k : ℕ). has (pack_sites c k) me) gs) (filter (λ (k : ℕ). has (pack_sites c k) me) gs))))
      at true pack later = inner (is_sync_site c me members g) pack later
      at false pack later = later

  packs_own : (gs : List ℕ) → Every (λ (g : ℕ). has_pack c g me ≡ true) (filter (λ (g : ℕ). has (pack_sites c g) me) gs)
  packs_own [] = tt
  packs_own (g ∷ gs) = at (has (pack_sites c g) me) refl (packs_own gs)
    where
      at : (b : Bool) → has (pack_sites c g) me ≡ b → Every (λ (k : ℕ). has_pack c k me ≡ true) (filter (λ (k : ℕ). has (pack_sites c k) me) gs) → Every (λ (k : ℕ). has_pack c k me ≡ true) (cond b (g ∷ filter (λ (k : ℕ). has (pack_sites c k) me) gs) (filter (λ (k : ℕ). has (pack_sites c k) me) gs))
      at true pack later = (pack, later)
      at false pack later = later

  inside : InsideFact c f now (joined_view c me e members v)
  inside = record {
    frame = frame;
    users = users;
    store = store;
    groups = names_same (filter (is_sync_site c me members) (own_groups c me));
    tables = tables_new all_groups;
    pulls = subst (PullsFact c f now) (sym h.pulls) tt;
    pulls_ascend = subst (Ascends pull_key) (sym h.pulls) tt;
    reports = packs_own all_groups;
  }

  join_fine : SiteFine c n trace me (SiteFact c me) NoWrite (joins c me e members v)
  join_fine = record {
    told = (may, tt);
    own = (inr (inl refl), tt);
    view = inside;
    sent = reports_sent c now f (joined_view c me e members v) after frame store.copies (packs_own all_groups);
    written = tt;
  }

pub joins_fine : (c : Config) (n : ℕ) (trace : List Line) (me : ℕ) (e : EpochId) (members : Members) (v : SiteView) → Past c trace → OutsideFact c me trace v → AllRest c n trace (joins c me e members v).told → SiteFine c n trace me (SiteFact c me) NoWrite (joins c me e members v)
joins_fine c n trace me e members v past h fresh = join_fine c n trace me e members v past h fresh.0

-- both steps of epochs, as the induction over a run asks for them
pub epochs_do : (c : Config) → EpochsDo c
epochs_do c = record {
  joins = λ n trace me e members v past h fresh. joins_fine c n trace me e members v past h fresh;
  reports = λ trace f v ready h. reports_sent c trace f v ready.past ready.frame h.store.copies h.reports;
}

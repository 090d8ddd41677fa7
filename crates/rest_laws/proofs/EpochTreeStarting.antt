-- A group starts once all its members have reported: the start comes as it may, and the table is then what the tree has.
use Rattle.std.proofs.Common.{◌≡◌, ℕ, zero, suc, ◌+◌, ◌≤◌, ◌==◌, Bool, true, false, not, ◌&&◌, ◌||◌, cond, List, [], ◌∷◌, filter, Option, Some, None, refl, sym, ◌∙◌, ap, subst, ◌⊎◌, inl, inr, arith}
use Rattle.std.specs.List.{flat_map, list_all}
use Rattle.std.specs.Prelude.{get_or, nat_lt}
use Rattle.std.proofs.lemmas.Bool.Decides.{nat_tests}
use Rattle.role_steps.proofs.of_plain_facts.Numbers.{equal_self}
use Rattle.role_steps.proofs.of_plain_facts.Tests.{and_first, and_second, and_true}
use Rattle.locus_ids.specs.Sites.{has}
use Rattle.locus_ids.specs.declared.config.Config.{Config}
use Rattle.locus_ids.specs.declared.ids.Brought.{Brought}
use Rattle.locus_ids.specs.declared.ids.EpochId.{EpochId}
use Rattle.locus_ids.specs.declared.sites.Members.{Members}
use Rattle.locus_ids.specs.Sizes.{sites_max}
use Rattle.commit_graph.specs.Vectors.{numbers_from}
use Rattle.trace_book.specs.Same.{same_epoch}
use Rattle.trace_book.specs.declared.record.Record.TheVariants as says
use Rattle.role_steps.specs.Own.{Every}
use Rattle.role_steps.specs.Notices.{notices}
use Rattle.role_steps.specs.Reports.{brought_files, have_all_reported, starts, takes_all_early}
use Rattle.role_steps.specs.Views.{Frame, Told, Shown, Outcome, pack_sites, sync_site}
use Rattle.role_steps.specs.Views as role
use Rattle.role_steps.specs.declared.synchronizing.FileRow.{FileRow}
use Rattle.role_steps.specs.declared.synchronizing.LastLook.{LastLook}
use Rattle.role_steps.specs.declared.synchronizing.SyncTable.{SyncTable}
use Rattle.the_run.specs.Worlds.{Line}
use Rattle.tree_model.specs.Epochs.{has_joined, members_of}
use Rattle.tree_model.specs.Histories.{history}
use Rattle.tree_model.specs.Packs.{all_sites, has_pack, is_member_of}
use Rattle.tree_model.specs.Packs as tree
use Rattle.tree_model.specs.Same.{same_all}
use Rattle.tree_model.specs.State.{TreeState, held_at, kept_of, stamps_of}
use Rattle.tree_model.specs.Tree.{tree_of}
use Rattle.lawful_trace.specs.TreeRows.{has_joined_some, have_all_joined, is_served}
use Rattle.tree_laws.specs.Doing.{TableFine}
use Rattle.tree_laws.specs.Following.{MayTell}
use Rattle.tree_laws.specs.Frames.{AllStay, VersionsStay}
use Rattle.tree_laws.specs.Packets.{PacketFact, file_in}
use Rattle.tree_laws.specs.Printed.{entries}
use Rattle.tree_laws.specs.Tables.{ExactFact, FileFact, FilesFact, IsAhead, IsNoted, ReportedFiles, RowFact, TableFact, WaitsIn, tree_openers}
use Rattle.tree_laws.proofs.Boots.{every_both}
use Rattle.tree_laws.proofs.Carried.{packet_stays}
use Rattle.tree_laws.proofs.Names.{same_epoch_own}
use Rattle.tree_laws.proofs.Versions.{versions_stay}
use Rattle.store_laws.proofs.of_tree_laws.Orders.Alone.{tree_named}
use Rattle.store_laws.proofs.Holdings.Copies.{epoch_joined}
use Rattle.store_laws.proofs.of_tree_laws.Orders.ProcessSynchronizing.{sync_same}
use Rattle.store_laws.proofs.of_tree_laws.Syncs.Ahead.{ahead_stays}
use Rattle.store_laws.proofs.of_tree_laws.Syncs.Files.{file_row_stays}
use Rattle.store_laws.proofs.of_tree_laws.Syncs.Notices.{repeats_fine}
use Rattle.store_laws.proofs.of_tree_laws.Syncs.OpensStay.{names_stay, open_row_stays}
use Rattle.store_laws.proofs.of_tree_laws.Syncs.Trees.{same_if}
use Rattle.store_laws.specs.OneTree.Rest.{AllRest, Comes, RestTold, more}
use Rattle.store_laws.specs.OneTree.Roles.{Ready, TableHere}
use Rattle.store_laws.proofs.OneTree.Staying.{stays}
use Rattle.rest_laws.specs.EpochTreeStarting.{BroughtFiles}
use Rattle.rest_laws.specs.EpochTreeWaiting.{RequestsDo}
use Rattle.rest_laws.proofs.EpochTreeBrought.{all_same, stamps_row}
use Rattle.rest_laws.proofs.EpochTreeThen.{ready_onto, table_then}
use Rattle.rest_laws.proofs.EpochTreeWaiting.{all_fine, waits_onto}

-- who passes the filter passes the test of all that are left
passes_one : (p q : ℕ → Bool) (x : ℕ) (xs : List ℕ) → list_all p (filter q (x ∷ xs)) ≡ true → (q x ≡ true → p x ≡ true) × (list_all p (filter q xs) ≡ true)
passes_one p q x xs k = at (q x) k
  where
    at : (b : Bool) → list_all p (cond b (x ∷ filter q xs) (filter q xs)) ≡ true → (b ≡ true → p x ≡ true) × (list_all p (filter q xs) ≡ true)
    at true k = (λ e. and_first (p x) _ k, and_second (p x) _ k)
    at false k = (λ e. absurd cc, k)

above_zero : (b : ℕ) → not (b == 0) ≡ nat_lt 0 b
above_zero b = grind (arith, nat_tests)

pub member_same : (m : Members) (site : ℕ) → role.is_member m site ≡ tree.is_member m site
member_same m zero = refl
member_same m (suc place) = above_zero (get_or m.boot place 0)

-- numbers from one on are that at least
numbers_low : (k n : ℕ) → 1 ≤ k → Every (λ (s : ℕ). 1 ≤ s) (numbers_from k n)
numbers_low k zero low = tt
numbers_low k (suc n) low = (low, numbers_low (k + 1) n (omega (arith, low)))

or_so : (a b : Bool) → (a ≡ true → b ≡ true) → not a || b ≡ true
or_so true b h = h refl
or_so false b h = refl

module _ (c : Config) (n : ℕ) (trace : List Line) (f : Frame) (t : SyncTable) (ready : Ready c trace f) (here : TableHere c trace f t) (waits : t.started ≡ false) (reported : have_all_reported f t ≡ true) (files : BroughtFiles c trace f t) (rest : RestTold c trace (Shown (says.Start f.epoch t.group (flat_map brought_files t.files)))) where
  abbrev x : Told
  x = Shown (says.Start f.epoch t.group (flat_map brought_files t.files))

  abbrev now : List Line
  now = more n (Shown (says.Start f.epoch t.group (flat_map brought_files t.files))) trace

  abbrev s : TreeState
  s = tree_of c f.epoch t.group (entries trace)

  abbrev its : Bool
  its = same_epoch f.epoch s.epoch && (t.group == s.group)

  -- ---- the row ----

  serves : tree.sync_site c t.group (Some f.members) ≡ Some f.me
  serves = sym (sync_same c f.members t.group) ∙ (ap (λ (k : Config). sync_site k f.members t.group) (sym ready.frame.config_is) ∙ here.synced)

  served : is_served c (entries trace) f.epoch t.group ≡ true
  served = ap (λ (o : Option Members). has_joined_some (entries trace) f.epoch (tree.sync_site c t.group o)) ready.frame.members_are
      ∙ (ap (λ (o : Option ℕ). has_joined_some (entries trace) f.epoch o) serves ∙ epoch_joined (entries trace) f.me f.epoch ready.frame.inside)

  told_files : ReportedFiles c trace f t
  told_files = subst (FilesFact c trace f t) waits here.fact.files

  member_is : (site : ℕ) → is_member_of (members_of (entries trace) f.epoch) site && has_pack c t.group site ≡ true → has (pack_sites f.config t.group) site && role.is_member f.members site ≡ true
  member_is site k = and_true (has (pack_sites f.config t.group) site) (role.is_member f.members site)
      (ap (λ (k : Config). has (pack_sites k t.group) site) ready.frame.config_is ∙ and_second (is_member_of (members_of (entries trace) f.epoch) site) _ k)
      (member_same f.members site ∙ (sym (ap (λ (o : Option Members). is_member_of o site) ready.frame.members_are) ∙ and_first (is_member_of (members_of (entries trace) f.epoch) site) _ k))

  whole_of : (sites : List ℕ) → Every (λ (s : ℕ). 1 ≤ s) sites → list_all (has t.reported) (filter (λ (k : ℕ). has (pack_sites f.config t.group) k && role.is_member f.members k) sites) ≡ true →
      list_all (λ (site : ℕ). not (is_member_of (members_of (entries trace) f.epoch) site && has_pack c t.group site) || has_joined (entries trace) site f.epoch) sites ≡ true
  whole_of [] low k = refl
  whole_of (site ∷ sites) low k = (let w = passes_one (has t.reported) (λ (k : ℕ). has (pack_sites f.config t.group) k && role.is_member f.members k) site sites k in
      and_true (not (is_member_of (members_of (entries trace) f.epoch) site && has_pack c t.group site) || has_joined (entries trace) site f.epoch) _
      (or_so (is_member_of (members_of (entries trace) f.epoch) site && has_pack c t.group site) (has_joined (entries trace) site f.epoch) (λ m. told_files.joined site (low.0, w.0 (member_is site m)))) (whole_of sites low.1 w.1))

  whole : have_all_joined c (entries trace) f.epoch t.group ≡ true
  whole = whole_of role.all_sites (numbers_low 1 sites_max (omega arith)) reported

  pub start_may : MayTell c trace x
  start_may = record {
    row = record {
      gives = and_true (not s.started) _ (ap not (sym here.fact.started ∙ waits)) (subst (λ (bs : List Brought). same_all (flat_map brought_files t.files) bs ≡ true) files.known (all_same (flat_map brought_files t.files)));
      served = served;
      whole = whole;
    };
    in_time = tt;
  }

  -- ---- the table ----

  comes : Comes c trace x
  comes = record { past = ready.past; may = start_may; rest = rest }

  all_stay : AllStay c trace now x
  all_stay = (stays c).all n x trace comes

  versions : VersionsStay c trace now
  versions = versions_stay c n x trace ready.past.followed start_may all_stay.fresh all_stay.order

  begun : (b : Bool) → its ≡ b → (cond b (record s { started = true }) s).started ≡ true
  begun true e = refl
  begun false e = absurd (no (sym e ∙ is))
    where
      no : false ≡ true → ⊥
      no e = cc

      is : same_epoch f.epoch s.epoch && (t.group == s.group) ≡ true
      is = and_true (same_epoch f.epoch s.epoch) (t.group == s.group)
          (subst (λ (e : EpochId). same_epoch f.epoch e ≡ true) (sym (tree_named c f.epoch t.group (entries trace)).0) (same_epoch_own f.epoch))
          (subst (λ (g : ℕ). (t.group == g) ≡ true) (sym (tree_named c f.epoch t.group (entries trace)).1) (equal_self t.group))

  same_field : {X : Type 0} (field : TreeState → X) → field (record s { started = true }) ≡ field s → field (tree_of c f.epoch t.group (entries now)) ≡ field s
  same_field field e = same_if field its (record s { started = true }) s (λ b. e)

  exact_now : (r : FileRow) → ExactFact c trace f t.group r → ExactFact c now f t.group r
  exact_now r old site stamp still k = over (old site stamp still (sym (same_field (λ (u : TreeState). held_at u site r.ino) refl) ∙ k))
    where
      over : IsNoted r site stamp ⊎ IsAhead c trace f.epoch site (file_in t.group r.ino) → IsNoted r site stamp ⊎ IsAhead c now f.epoch site (file_in t.group r.ino)
      over (inl noted) = inl noted
      over (inr ahead) = inr (ahead_stays c n x trace start_may f site (file_in t.group r.ino) (λ q. q) ahead)

  pub table_now : TableFact c now f (record t { started = true; early = [] })
  table_now = record {
    started = sym (begun its refl);
    early = tt;
    early_here = tt;
    early_only = λ k. refl;
    all = λ k. reported;
    rows = every_both (FileFact c trace f.epoch t.group) (FileFact c now f.epoch t.group) t.files (file_row_stays c trace now versions f.epoch t.group) here.fact.rows;
    rise = here.fact.rise;
    files = record {
      known = λ ino. sym (stamps_row t.files here.fact.rise ino) ∙ (ap (λ (bs : List Brought). stamps_of bs ino) files.known ∙ sym (same_field (λ (u : TreeState). stamps_of u.known ino) refl));
      kept_is = λ ino. files.kept_is ino ∙ sym (same_field (λ (u : TreeState). kept_of (history c (entries trace)) u (file_in t.group ino)) refl);
      exact = λ ino r k. exact_now r (files.exact ino r k);
    };
    opens = every_both (RowFact c trace f.epoch t.group) (RowFact c now f.epoch t.group) t.opens (λ r k. open_row_stays c n x trace ready.past.followed start_may versions f t.group (λ q. q) r (λ q. q) k) here.fact.opens;
    apart = here.fact.apart;
    has = λ i w. here.fact.has i (names_stay n trace f t.group x (λ q. q) i w);
    openers_are = λ ino some. here.fact.openers_are ino some ∙ sym (same_field (λ (u : TreeState). tree_openers u (file_in t.group ino)) refl);
    turns = λ us process small. here.fact.turns us process small;
    looks = every_both (λ (l : LastLook). PacketFact c trace (role.packet f l.to l.body)) (λ (l : LastLook). PacketFact c now (role.packet f l.to l.body)) t.looks (λ l p. packet_stays c n x trace ready.past.followed start_may all_stay (role.packet f l.to l.body) p) here.fact.looks;
  }

  abbrev started_table : SyncTable
  started_table = record t { started = true; early = [] }

  abbrev first : Outcome SyncTable
  first = record { view = record t { started = true; early = [] }; sent = notices f t; told = Shown (says.Start f.epoch t.group (flat_map brought_files t.files)) ∷ []; written = None }

  pub first_fine : TableFine c n trace f t.group first
  first_fine = record {
    told = (start_may, tt);
    own = ((refl, refl), tt);
    view = record { group_is = refl; table = table_now };
    sent = repeats_fine c now f started_table table_now;
    written = tt;
  }

pub starts_fine : (c : Config) (n : ℕ) (trace : List Line) (f : Frame) (t : SyncTable) → RequestsDo c → Ready c trace f → TableHere c trace f t → t.started ≡ false → have_all_reported f t ≡ true → BroughtFiles c trace f t → Every (WaitsIn t.group) t.early → AllRest c n trace (starts f t).told → TableFine c n trace f t.group (starts f t)
starts_fine c n trace f t does ready here waits reported files groups fresh =
    let o : Outcome SyncTable = record { view = record t { started = true; early = [] }; sent = notices f t; told = Shown (says.Start f.epoch t.group (flat_map brought_files t.files)) ∷ []; written = None } in
    let a : TableFine c n trace f t.group o = first_fine c n trace f t ready here waits reported files fresh.0 in
    table_then c n trace f t.group o (takes_all_early f t.early (record t { started = true; early = [] })) ready fresh a
    (all_fine c does n f t.early (more n (Shown (says.Start f.epoch t.group (flat_map brought_files t.files))) trace) (record t { started = true; early = [] }) (ready_onto c n trace f t.group o ready (fresh.0, tt) a)
    (record { synced = here.synced; fact = a.view.table }) refl (waits_onto c does n f trace o t.group ready (fresh.0, tt) a t.early here.fact.early) groups fresh.1)

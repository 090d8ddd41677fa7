-- A make is asked of the site that is to store its file, or refused where it is for no member or for a site without a pack.
use Rattle.std.proofs.Common.{◌≡◌, ℕ, ◌==◌, Bool, true, false, ◌&&◌, cond, List, [], ◌∷◌, ◌++◌, filter, map, Option, Some, None, refl, sym, ap, ◌∙◌, subst, ◌⊎◌, inl, inr}
use Rattle.std.specs.Option.{is_some, option_or}
use Rattle.role_steps.proofs.of_plain_facts.Numbers.{equal}
use Rattle.role_steps.proofs.of_plain_facts.Tests.{and_second, and_true, true_false}
use Rattle.locus_ids.specs.Sites.{both as common}
use Rattle.locus_ids.specs.declared.config.Config.{Config}
use Rattle.locus_ids.specs.declared.ids.CallId.{CallId}
use Rattle.locus_ids.specs.declared.ids.FileId.{FileId}
use Rattle.locus_ids.specs.declared.ids.Kind.{Kind}
use Rattle.locus_ids.specs.declared.ids.Mode.TheVariants as mode
use Rattle.locus_ids.specs.declared.refusal.Refusal.{Refusal}
use Rattle.locus_ids.specs.declared.refusal.Refusal.TheVariants as refusal
use Rattle.locus_ids.specs.declared.sites.Members.{Members}
use Rattle.locus_ids.specs.declared.sites.Sites.{Sites}
use Rattle.locus_ids.specs.Sizes.{sites_max}
use Rattle.commit_graph.specs.Versions.{same_file}
use Rattle.dir_format.specs.Entries.{nothing_seen}
use Rattle.wire_messages.specs.declared.body.Body.TheVariants as body
use Rattle.wire_messages.specs.declared.body.Opening.TheVariants as how
use Rattle.role_steps.specs.Opens.{OpenRequest, Denies, asks_row, asks_storage, asked_row, call_id, decides, decision, is_open_on, make_at, on_open_of, open_key, open_row, repeats_open, takes_open, with_open}
use Rattle.role_steps.specs.Requests.{opening_of}
use Rattle.trace_book.specs.declared.call.OpenMode.TheVariants as words
use Rattle.trace_book.specs.declared.call.OpenMode.{OpenMode}
use Rattle.role_steps.specs.Reports.{on_open, waits_early}
use Rattle.role_steps.specs.Tables.{row}
use Rattle.role_steps.specs.Versions.{chosen_site}
use Rattle.role_steps.specs.Views.{Frame, members_of as present, pack_sites, quiet, serial_key}
use Rattle.role_steps.specs.declared.synchronizing.OpenRow.{OpenRow}
use Rattle.role_steps.specs.declared.synchronizing.SyncTable.{SyncTable}
use Rattle.the_run.specs.Worlds.{Line}
use Rattle.tree_model.specs.Epochs.{members_of}
use Rattle.tree_model.specs.Given.{refuses}
use Rattle.tree_model.specs.Histories.{history}
use Rattle.tree_model.specs.Opening.{making_set, open_refusal}
use Rattle.tree_model.specs.Packs.{is_good_set, is_place, is_within, least_site, making_site_in, packs_of, sync_site, that_passes}
use Rattle.tree_model.specs.State.{TreeState}
use Rattle.tree_model.specs.Tree.{tree_of}
use Rattle.tree_laws.specs.Doing.{TableFine}
use Rattle.tree_laws.specs.Instances.{AsksOpen, IsOpening}
use Rattle.tree_laws.specs.Packets.{IsCallOf, MakesNow, OpenFact, serial_of, file_in}
use Rattle.tree_laws.specs.Past.{WasNamedIn}
use Rattle.tree_laws.specs.Printed.{entries}
use Rattle.tree_laws.specs.Tables.{RowFact, named_openers, named_row}
use Rattle.call_rules.specs.declared.want.Want.{Want}
use Rattle.call_rules.specs.declared.want.Want.TheVariants as want
use Rattle.tree_laws.proofs.Kinship.{tree_group_is}
use Rattle.tree_laws.proofs.Orders.Knowing.{tree_config}
use Rattle.tree_laws.specs.Syncs.Making.{MakesAreSaid, table_place, tree_place}
use Rattle.tree_laws.specs.Syncs.Serving.{Serving}
use Rattle.tree_laws.proofs.Syncs.Adding.{latest_new, openers_added}
use Rattle.tree_laws.proofs.Syncs.Again.{again}
use Rattle.tree_laws.proofs.Syncs.Answering.{changed_table}
use Rattle.tree_laws.proofs.Syncs.Looks.{early_fact, early_group, sends_fine}
use Rattle.tree_laws.proofs.Syncs.Merging.{tree_members}
use Rattle.tree_laws.proofs.Syncs.Openings.{here, its, nil_after, none_seen, refused_as}
use Rattle.tree_laws.proofs.Syncs.Rows.{row_every}
use Rattle.tree_laws.proofs.Syncs.Sets.{place_same}

-- ---- where a make goes ----

some_or : {A : Type 0} (a b : Option A) → is_some b ≡ true → is_some (option_or a b) ≡ true
some_or None b e = e
some_or (Some x) b e = refl

-- a good set has a place
good_place : (c : Config) (group : ℕ) (members : Option Members) (own : ℕ) (set : Sites) → is_good_set c group members set ≡ true → is_some (making_site_in c group members own set) ≡ true
good_place c group members own set e = some_or (that_passes (is_place members set) (Some own)) _ (some_or (that_passes (is_place members set) (sync_site c group members)) (least_site (is_place members set)) (and_second (is_within set (packs_of c group)) _ e))

-- where the tree has no place the set isn't good
no_place : (c : Config) (group : ℕ) (members : Option Members) (own : ℕ) (set : Sites) → tree_place c group members own set ≡ None → is_good_set c group members set ≡ false
no_place c group members own set e = over (is_good_set c group members set) refl
  where
    over : (b : Bool) → is_good_set c group members set ≡ b → b ≡ false
    over true k = absurd (true_false (sym (good_place c group members own set k) ∙ ap is_some (sym (ap (λ (b : Bool). cond b (making_site_in c group members own set) None) k) ∙ e)))
    over false k = refl

-- and where it has one the set is good, and its site is this
a_place : (c : Config) (group : ℕ) (members : Option Members) (own : ℕ) (set : Sites) (ss : ℕ) → tree_place c group members own set ≡ Some ss → (is_good_set c group members set ≡ true) × (making_site_in c group members own set ≡ Some ss)
a_place c group members own set ss e = over (is_good_set c group members set) refl
  where
    none : ◌≡◌ {A = Option ℕ} None (Some ss) → ⊥
    none k = cc

    over : (b : Bool) → is_good_set c group members set ≡ b → (b ≡ true) × (making_site_in c group members own set ≡ Some ss)
    over true k = (refl, sym (ap (λ (b : Bool). cond b (making_site_in c group members own set) None) k) ∙ e)
    over false k = absurd (none (sym (ap (λ (b : Bool). cond b (making_site_in c group members own set) None) k) ∙ e))

unnumbered : (c : Config) (w : Want) (f : FileId) (set : Sites) (k : Kind) → IsOpening c w f (how.Make set k) → f.ino ≡ 0
unnumbered c (want.Open g m) f set k o = absurd (no_make m o.1)
  where
    no_make : (m : OpenMode) → how.Make set k ≡ opening_of m → ⊥
    no_make words.Read e = cc
    no_make words.Write e = cc
    no_make (words.Resolve site) e = cc
    no_make words.Steady e = cc
unnumbered c (want.OpenToMend g) f set k o = absurd (no_mend o.1)
  where
    no_mend : how.Make set k ≡ how.Mend → ⊥
    no_mend e = cc
unnumbered c (want.Make group kind sites) f set k o = o.1
unnumbered c (want.Look g w) f set k o = absurd o
unnumbered c (want.Do i op) f set k o = absurd o
unnumbered c (want.Close i) f set k o = absurd o
unnumbered c (want.Give r) f set k o = absurd o
unnumbered c want.Never f set k o = absurd o

module _ (c : Config) (n : ℕ) (trace : List Line) (f : Frame) (tab : SyncTable) (sv : Serving c n trace f tab) (makes : MakesAreSaid c trace) (started : tab.started ≡ true) (us serial number process request : ℕ) (file : FileId) (group_is : file.group ≡ tab.group) (call : CallId) (is_call : IsCallOf trace f.epoch us number process call) (set : Sites) (k : Kind) where
  abbrev d : CallId
  d = call_id f us number

  abbrev o : OpenRequest
  o = record { serial = serial; call = number; process = process; request = request; file = file; how = how.Make set k }

  abbrev t : TreeState
  t = tree_of c f.epoch file.group (entries trace)

  its_here : IsCallOf trace f.epoch us number process d
  its_here = here c n trace f tab sv started us serial number process request file group_is call is_call

  is_started : t.started ≡ true
  is_started = subst (λ (g : ℕ). (tree_of c f.epoch g (entries trace)).started ≡ true) (sym group_is) (sym sv.table.started ∙ started)

  module _ (asks : AsksOpen c trace f.epoch d request serial file (how.Make set k)) (none : row open_key (serial_key (serial_of us serial)) tab.opens ≡ None) where
    place_is : table_place f file.group us set ≡ tree_place c file.group (members_of (entries trace) f.epoch) us set
    place_is = place_same c f sv.frame.config_is file.group us set (ap (λ (g : ℕ). sync_site c g (Some f.members)) group_is ∙ sv.serves) (sv.calls.narrow d its_here.caller its_here.named) (makes.fits f.epoch d request serial file set k asks) ∙ ap (λ (m : Option Members). tree_place c file.group m us set) (sym sv.frame.members_are)

    no_number : file.ino ≡ 0
    no_number = unnumbered c asks.wanted file set k asks.opening_is

    -- ---- it is refused ----

    refusal_is : open_refusal (history c (entries trace)) t mode.Make d file ≡ cond (is_good_set c file.group (members_of (entries trace) f.epoch) set) None (Some refusal.NoStorage)
    refusal_is =
        ap (λ (q : Config). cond (is_good_set q t.group t.members (making_set t d)) None (Some refusal.NoStorage)) (tree_config c f.epoch file.group (entries trace))
        ∙ (ap (λ (g : ℕ). cond (is_good_set c g t.members (making_set t d)) None (Some refusal.NoStorage)) (tree_group_is c f.epoch file.group (entries trace))
        ∙ (ap (λ (m : Option Members). cond (is_good_set c file.group m (making_set t d)) None (Some refusal.NoStorage)) (tree_members c f.epoch file.group (entries trace))
        ∙ ap (λ (s : Sites). cond (is_good_set c file.group (members_of (entries trace) f.epoch) s) None (Some refusal.NoStorage)) (makes.said f.epoch d request serial file set k asks)))

    denied : table_place f file.group us set ≡ None → TableFine c n trace f tab.group (decides f tab us o (Denies refusal.NoStorage))
    denied e = refused_as c n trace f tab sv started us serial number process request file group_is call is_call (how.Make set k) asks none refusal.NoStorage (inr bad)
        (and_true t.started _ is_started (and_true (file.ino == 0) _ (subst (λ (m : ℕ). (m == 0) ≡ true) (sym no_number) refl)
        (ap (λ (z : Option Refusal). refuses (history c (entries trace)) t d mode.Make file refusal.NoStorage z) (refusal_is ∙ ap (λ (b : Bool). cond b None (Some refusal.NoStorage)) bad))))
      where
        bad : is_good_set c file.group (members_of (entries trace) f.epoch) set ≡ false
        bad = no_place c file.group (members_of (entries trace) f.epoch) us set (sym place_is ∙ e)

    -- ---- it is asked of its storage site ----

    module _ (ss : ℕ) (e : table_place f file.group us set ≡ Some ss) where
      abbrev asked : OpenRow
      asked = asked_row us o ss None nothing_seen [] set k

      there : (is_good_set c file.group (members_of (entries trace) f.epoch) set ≡ true) × (making_site_in c file.group (members_of (entries trace) f.epoch) us set ≡ Some ss)
      there = a_place c file.group (members_of (entries trace) f.epoch) us set ss (sym place_is ∙ e)

      abbrev now : MakesNow c trace f.epoch ss (serial_of us serial) file.group set k
      now = record { call = d; request = request; file = file; asks = asks; user_is = refl; group_is = refl; started = is_started; good = there.0; at = there.1 }

      fact : RowFact c trace f.epoch tab.group asked
      fact = record {
        call = d;
        is_call = its_here;
        group_is = group_is;
        stage = record { make = now; call_is = refl; request_is = refl; file_is = refl; parents_are = refl; stamp_is = refl };
        vector_is = (none_seen sites_max, refl);
        sees = tt;
      }

      -- a make that has no number yet opens no file
      openers_same : (ino : ℕ) → (ino ≡ 0 → ⊥) → named_openers (with_open asked tab) (file_in tab.group ino) ≡ named_openers tab (file_in tab.group ino)
      openers_same ino some =
          ap (λ (rs : List OpenRow). map named_row (filter (is_open_on (file_in tab.group ino)) rs)) (latest_new open_key asked tab.opens none)
          ∙ (openers_added (is_open_on (file_in tab.group ino)) named_row tab.opens asked ∙ (ap (λ (b : Bool). named_openers tab (file_in tab.group ino) ++ cond (b && true) (named_row asked ∷ []) []) apart ∙ nil_after (named_openers tab (file_in tab.group ino))))
        where
          apart : same_file file (file_in tab.group ino) ≡ false
          apart = over (same_file file (file_in tab.group ino)) refl
            where
              over : (b : Bool) → same_file file (file_in tab.group ino) ≡ b → b ≡ false
              over true z = absurd (some (sym (equal file.ino ino (and_second (file.group == tab.group) _ z)) ∙ no_number))
              over false z = refl

      asked_fine : TableFine c n trace f tab.group (asks_row f asked tab)
      asked_fine = sends_fine c n trace f tab (asks_storage f asked) (with_open asked tab) refl (changed_table c trace f tab asked sv.table fact openers_same) ((inr (inr now), refl, (none_seen sites_max, refl)), tt)

    placed_fine : (z : Option ℕ) → table_place f file.group us set ≡ z → TableFine c n trace f tab.group (decides f tab us o (make_at set k z))
    placed_fine None e = denied e
    placed_fine (Some ss) e = asked_fine ss e

    decided : (b : Bool) → ((common set (pack_sites f.config tab.group)).0 == set.0) ≡ b → TableFine c n trace f tab.group (decides f tab us o (cond b (make_at set k (chosen_site us f.me (present f.members set))) (Denies refusal.NoStorage)))
    decided true e = placed_fine (chosen_site us f.me (present f.members set)) (by_group e)
      where
        by_group : ((common set (pack_sites f.config tab.group)).0 == set.0) ≡ true → table_place f file.group us set ≡ chosen_site us f.me (present f.members set)
        by_group z = ap (λ (g : ℕ). table_place f g us set) group_is ∙ ap (λ (b : Bool). cond b (chosen_site us f.me (present f.members set)) None) z
    decided false e = denied (ap (λ (g : ℕ). table_place f g us set) group_is ∙ ap (λ (b : Bool). cond b (chosen_site us f.me (present f.members set)) None) e)

    new_fine : TableFine c n trace f tab.group (decides f tab us o (decision f tab us o (how.Make set k)))
    new_fine = decided ((common set (pack_sites f.config tab.group)).0 == set.0) refl

  comes_fine : WasNamedIn trace f.epoch file.group (serial_of us serial) ⊎ AsksOpen c trace f.epoch d request serial file (how.Make set k) → (r : Option OpenRow) → open_row tab (serial_of us serial) ≡ r → TableFine c n trace f tab.group (on_open_of f tab us o r)
  comes_fine stands None e = over stands
    where
      over : WasNamedIn trace f.epoch file.group (serial_of us serial) ⊎ AsksOpen c trace f.epoch d request serial file (how.Make set k) → TableFine c n trace f tab.group (decides f tab us o (decision f tab us o (how.Make set k)))
      over (inl w) = absurd (true_false (sym (sv.table.has (serial_of us serial) (subst (λ (g : ℕ). WasNamedIn trace f.epoch g (serial_of us serial)) group_is w)) ∙ ap is_some e))
      over (inr asks) = new_fine asks e
  comes_fine stands (Some r) e = (let fact : RowFact c trace f.epoch tab.group r = row_every (RowFact c trace f.epoch tab.group) open_key (serial_key (serial_of us serial)) tab.opens r sv.table.opens e in
      sends_fine c n trace f tab (repeats_open f r r.stage) tab refl sv.table (again c trace f tab.group r fact r.stage fact.stage))

pub make_fine : (c : Config) (n : ℕ) (trace : List Line) (f : Frame) (tab : SyncTable) → Serving c n trace f tab → MakesAreSaid c trace → (us serial number process request : ℕ) (file : FileId) (set : Sites) (k : Kind) → file.group ≡ tab.group → OpenFact c trace f.epoch us serial number process request file (how.Make set k)
    → TableFine c n trace f tab.group (on_open f us (record { serial = serial; call = number; process = process; request = request; file = file; how = how.Make set k }) tab)
make_fine c n trace f tab sv makes us serial number process request file set k group_is fact = over tab.started refl
  where
    over : (b : Bool) → tab.started ≡ b → TableFine c n trace f tab.group (elim b [ true ↦ takes_open f us (record { serial = serial; call = number; process = process; request = request; file = file; how = how.Make set k }) tab | false ↦ quiet (waits_early us process (body.Open serial number process request file (how.Make set k)) tab) ])
    over true e = comes_fine c n trace f tab sv makes e us serial number process request file group_is fact.call fact.is_call set k
        (subst (λ (x : CallId). WasNamedIn trace f.epoch file.group (serial_of us serial) ⊎ AsksOpen c trace f.epoch x request serial file (how.Make set k)) (sym (its c n trace f tab sv e us serial number process request file group_is fact.call fact.is_call)) fact.stands)
        (open_row tab (serial_of us serial)) refl
    over false e = sends_fine c n trace f tab [] (waits_early us process (body.Open serial number process request file (how.Make set k)) tab) (early_group us process (body.Open serial number process request file (how.Make set k)) tab)
        (early_fact c trace f tab us process (body.Open serial number process request file (how.Make set k)) e (sym group_is) fact sv.table) tt

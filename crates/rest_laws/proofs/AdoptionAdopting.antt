-- One adoption: what it tells, writes and sends, and what the site has then.
use Rattle.std.proofs.Common.{◌≡◌, ◌<◌, ℕ, ◌==◌, Bool, true, false, List, [], ◌∷◌, map, Option, Some, None, length, refl, sym, ◌∙◌, ap, subst, inl, inr, filter, arith}
use Rattle.role_steps.proofs.of_plain_facts.Numbers.{equal, equal_self}
use Rattle.role_steps.proofs.of_plain_facts.Tests.{true_false}
use Rattle.commit_graph.specs.Versions.{content_of}
use Rattle.file_content.specs.Pages.{pages_of, pages_from, has_page}
use Rattle.tree_model.specs.Files.{HeldVersion}
use Rattle.tree_model.specs.Histories.{history}
use Rattle.tree_laws.specs.Printed.{entries}
use Rattle.locus_ids.specs.declared.config.Config.{Config}
use Rattle.locus_ids.specs.declared.ids.Stamp.{Stamp}
use Rattle.role_steps.specs.Adoption.{adopts_pull, notes_own_at, table_group, with_adopted}
use Rattle.role_steps.specs.Own.{Every}
use Rattle.role_steps.specs.Pulling.{pull_key, wanted_pages}
use Rattle.role_steps.specs.Reports.{on_have_of}
use Rattle.role_steps.specs.Tables.{row, with_row, without_row}
use Rattle.role_steps.specs.Versions.{file_row}
use Rattle.role_steps.specs.Views.{Frame, SiteView, Told, file_key}
use Rattle.role_steps.specs.declared.pulls.Pull.{Pull}
use Rattle.role_steps.specs.declared.synchronizing.FileRow.{FileRow}
use Rattle.role_steps.specs.declared.synchronizing.SyncTable.{SyncTable}
use Rattle.the_run.specs.Kept.{Among}
use Rattle.the_run.specs.Worlds.{Line}
use Rattle.the_run.proofs.Boots.{every_weaker}
use Rattle.the_run.proofs.InsideSync.{every_without}
use Rattle.tree_laws.specs.Doing.{Fine, FrameFact, IsAdopted, PullsFact, StoreHeld, WriteFact}
use Rattle.tree_laws.specs.Stores.{PullFact, Ascends}
use Rattle.tree_laws.specs.Tables.{TableFact}
use Rattle.tree_laws.proofs.Boots.{every_pair}
use Rattle.tree_laws.proofs.Later.{every_among}
use Rattle.store_laws.proofs.Adopting.{adopted_sent, store_adopted, pulled_content}
use Rattle.store_laws.proofs.PulledPages.{pages_among}
use Rattle.store_laws.specs.Pulling.{AdoptsFile}
use Rattle.store_laws.specs.of_tree_laws.Syncs.Staying.{TouchesTable}
use Rattle.store_laws.proofs.of_tree_laws.Syncs.Staying.{table_stays}
use Rattle.store_laws.specs.OneTree.Places.{InsideFact, UsersOf, synced_groups}
use Rattle.store_laws.specs.OneTree.Rest.{more}
use Rattle.store_laws.proofs.OneTree.Frames.{pulls_beside, users_frame}
use Rattle.store_laws.proofs.OneTree.Framing.{frame_stays}
use Rattle.store_laws.proofs.OneTree.Parts.{tables_rise}
use Rattle.store_laws.proofs.OneTree.Rising.{Rising, among_map, every_replaced, keys_same, row_key}
use Rattle.store_laws.proofs.OneTree.WantsAdopted.{ascends_left}
use Rattle.rest_laws.proofs.AdoptionWants.{IsTaken, comes, complete, may, stay, stores, tells, wants}

-- what isn't found is nowhere
row_none : {A : Type 0} (key : A → ℕ) (k : ℕ) (xs : List A) → row key k xs ≡ None → Every (λ (x : A). key x ≡ k → ⊥) xs
row_none key k [] e = tt
row_none {A} key k (x ∷ xs) e = at (key x == k) refl e (row_none key k xs)
  where
    some_none : (a : A) → ◌≡◌ {A = Option A} (Some a) None → ⊥
    some_none a q = cc

    at : (b : Bool) → (key x == k) ≡ b → ◌≡◌ {A = Option A} (elim b [ true ↦ Some x | false ↦ row key k xs ]) None → (row key k xs ≡ None → Every (λ (y : A). key y ≡ k → ⊥) xs) → Every (λ (y : A). key y ≡ k → ⊥) (x ∷ xs)
    at true t q later = absurd (some_none x q)
    at false t q later = ((λ is. true_false (sym (subst (λ (m : ℕ). (key x == m) ≡ true) is (equal_self (key x))) ∙ t)), later q)

-- the files are pulled once: no row of the key is left
left_apart : (k : ℕ) (ps : List Pull) → Ascends pull_key ps → Every (λ (q : Pull). pull_key q ≡ k → ⊥) (without_row pull_key k ps)
left_apart k [] h = tt
left_apart k (p ∷ ps) h = over (pull_key p == k) refl (left_apart k ps h.1)
  where
    higher : (a b : ℕ) → a < b → a ≡ k → b ≡ k → ⊥
    higher a b lt e g = omega (arith, lt, e, g)

    over : (b : Bool) → (pull_key p == k) ≡ b → Every (λ (q : Pull). pull_key q ≡ k → ⊥) (without_row pull_key k ps) → Every (λ (q : Pull). pull_key q ≡ k → ⊥) (elim b [ true ↦ ps | false ↦ p ∷ without_row pull_key k ps ])
    over true e later = every_weaker (λ (q : Pull). pull_key p < pull_key q) (λ (q : Pull). pull_key q ≡ k → ⊥) ps (λ q lt. higher (pull_key p) (pull_key q) lt (equal (pull_key p) k e)) h.0
    over false e later = ((λ is. true_false (sym (subst (λ (m : ℕ). (pull_key p == m) ≡ true) is (equal_self (pull_key p))) ∙ e)), later)

have_group : (me : ℕ) (stamp : Stamp) (o : Option FileRow) (t : SyncTable) → (on_have_of me stamp o t).group ≡ t.group
have_group me stamp None t = refl
have_group me stamp (Some r) t = refl

module _ (c : Config) (n : ℕ) (trace : List Line) (f : Frame) (v : SiteView) (p : Pull) (k : IsTaken c trace f v p) where
  abbrev told : Told
  told = tells f p

  abbrev after : List Line
  after = more n told trace

  store : StoreHeld c f after (with_adopted p v).store
  store = store_adopted c n trace k.past.rest.packs k.past.followed (stores c n trace f v p k) f k.inside.frame v.store k.inside.store p k.pull (complete c n trace f v p k) (wants c n trace f v p k) k.above (stay c n trace f v p k)

  users : UsersOf c f after v.users
  users = record {
    inside = users_frame c n told trace f v.users (comes c n trace f v p k) k.inside.frame (λ z. z) (λ z. z) k.inside.users.inside;
    apart = k.inside.users.apart;
    waiting_ascends = k.inside.users.waiting_ascends;
    instances_ascend = k.inside.users.instances_ascend;
    descriptors_ascend = k.inside.users.descriptors_ascend;
  }

  frame : FrameFact c after f
  frame = frame_stays c n told trace f (comes c n trace f v p k) (λ z. z) k.inside.frame

  pulls : PullsFact c f after (without_row pull_key (pull_key p) v.pulls)
  pulls = pulls_beside c n told trace f (without_row pull_key (pull_key p) v.pulls) (comes c n trace f v p k)
      (every_weaker (λ (q : Pull). pull_key q ≡ pull_key p → ⊥) (λ (q : Pull). AdoptsFile f.me q.file told → ⊥) (without_row pull_key (pull_key p) v.pulls) (λ q apart a. apart (ap file_key (sym a.0))) (left_apart (pull_key p) v.pulls k.inside.pulls_ascend))
      (every_without (PullFact c trace f.epoch f.me) pull_key (pull_key p) v.pulls k.inside.pulls)

  -- ---- the tables ----

  untouched : (t : SyncTable) → (t.group ≡ p.file.group → ⊥) → TouchesTable f t.group told → ⊥
  untouched t apart (inl q) = q
  untouched t apart (inr (inl q)) = q
  untouched t apart (inr (inr (inl q))) = q
  untouched t apart (inr (inr (inr (inl q)))) = q
  untouched t apart (inr (inr (inr (inr q)))) = apart (sym q.1)

  others : (ts : List SyncTable) → Every (TableFact c trace f) ts → Every (λ (t : SyncTable). (t.group ≡ p.file.group → ⊥) → TableFact c after f t) ts
  others [] all = tt
  others (t ∷ ts) all = ((λ apart. table_stays c n told trace k.past.followed (may c n trace f v p k) (record { stay = stay c n trace f v p k; packs = k.past.rest.packs; nothing = tt }) f t all.0 (untouched t apart)), others ts all.1)

  module _ (note : (t : SyncTable) → Among t v.tables → t.group ≡ p.file.group → TableFact c trace f t → TableFact c after f (on_have_of f.me p.stamp (file_row t p.file.ino) t)) where
    abbrev bare : SiteView
    bare = with_adopted p v

    -- the site, with its tables so
    with_tables : (ts : List SyncTable) → map table_group ts ≡ synced_groups f → Every (TableFact c after f) ts → InsideFact c f after (record bare { tables = ts })
    with_tables ts groups tables = record { frame = frame; users = users; store = store; groups = groups; tables = tables; pulls = pulls; pulls_ascend = ascends_left (pull_key p) v.pulls k.inside.pulls_ascend; reports = k.inside.reports }

    noted : (o : Option SyncTable) → row table_group p.file.group v.tables ≡ o → InsideFact c f after (notes_own_at f p o bare)
    noted None e = with_tables v.tables k.inside.groups (every_pair (λ (t : SyncTable). t.group ≡ p.file.group → ⊥) (λ (t : SyncTable). (t.group ≡ p.file.group → ⊥) → TableFact c after f t) (TableFact c after f) v.tables (λ t a b. b a) (row_none table_group p.file.group v.tables e) (others v.tables k.inside.tables))
    noted (Some t) e = with_tables (with_row table_group t_noted v.tables) (keys_same table_group t_noted v.tables rises (subst (λ (g : ℕ). Among g (map table_group v.tables)) (sym same) (among_map table_group t v.tables there.0)) ∙ k.inside.groups)
        (every_replaced (TableFact c after f) table_group t_noted v.tables rises (note t there.0 there.1 (every_among (TableFact c trace f) t v.tables k.inside.tables there.0))
        (subst (λ (g : ℕ). Every (λ (u : SyncTable). (u.group ≡ g → ⊥) → TableFact c after f u) v.tables) (sym (same ∙ there.1)) (others v.tables k.inside.tables)))
      where
        t_noted : SyncTable
        t_noted = on_have_of f.me p.stamp (file_row t p.file.ino) t

        there : Among t v.tables × (t.group ≡ p.file.group)
        there = row_key table_group p.file.group v.tables t e

        same : t_noted.group ≡ t.group
        same = have_group f.me p.stamp (file_row t p.file.ino) t

        rises : Rising (map table_group v.tables)
        rises = tables_rise f v.tables k.inside.groups

    pub adopted_fine : Fine SiteView c n trace (IsAdopted f.me) (InsideFact c f) (WriteFact c n trace f.me v.store) (adopts_pull f p v)
    adopted_fine = record {
      told = (may c n trace f v p k, tt);
      own = (refl, tt);
      view = noted (row table_group p.file.group v.tables) refl;
      sent = adopted_sent c n trace k.past.rest.packs k.past.followed (stores c n trace f v p k) f k.inside.frame v.store k.inside.store p k.pull (complete c n trace f v p k) (wants c n trace f v p k) k.above;
      written = record {
        own = refl;
        may = may c n trace f v p k;
        held = store.copies;
        pages = subst (λ (m : ℕ). wanted_pages p ≡ filter (has_page (wanted_pages p)) (pages_from 0 m)) count_is (pages_among (pages_of (length k.pull.version.content)) (wanted_pages p) k.pull.rising k.pull.inside);
        now = ap (λ (xs : List ℕ). pages_of (length xs)) (pulled_content c trace (stores c n trace f v p k) f v.store k.inside.store p k.pull (complete c n trace f v p k) k.above) ∙ count_is;
      };
    }
      where
        count_is : pages_of (length k.pull.version.content) ≡ pages_of (length (content_of (history c (entries trace)) p.file p.stamp))
        count_is = ap (λ (xs : List ℕ). pages_of (length xs)) (ap (λ (y : HeldVersion). y.content) k.pull.is_version.same ∙ ap (λ (s : Stamp). content_of (history c (entries trace)) p.file s) k.pull.stamp_is)

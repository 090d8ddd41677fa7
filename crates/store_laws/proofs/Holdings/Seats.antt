-- An open instance stands on what its storage site holds: its last version is what the site has in the epoch, for each mode.
use Rattle.std.proofs.Common.{◌≡◌, ℕ, ◌==◌, Bool, true, false, not, ◌&&◌, ◌||◌, cond, List, [], ◌∷◌, ◌++◌, filter, Option, Some, None, refl, sym, ap, ◌∙◌, subst}
use Rattle.std.specs.List.{AllByRecursion, list_any}
use Rattle.std.specs.Option.{is_none, option_map}
use Rattle.tree_laws.proofs.of_plain_facts.Numbers.{equal, equal_self}
use Rattle.tree_laws.proofs.of_plain_facts.Options.{none_some}
use Rattle.tree_laws.proofs.of_plain_facts.Tests.{and_first, and_second, true_false}
use Rattle.locus_ids.specs.declared.config.Config.{Config}
use Rattle.locus_ids.specs.declared.ids.CallId.{CallId}
use Rattle.locus_ids.specs.declared.ids.EpochId.{EpochId}
use Rattle.locus_ids.specs.declared.ids.FileId.{FileId}
use Rattle.locus_ids.specs.declared.ids.Mode.{Mode}
use Rattle.locus_ids.specs.declared.ids.Mode.TheVariants as mode
use Rattle.locus_ids.specs.declared.ids.Serial.{Serial}
use Rattle.locus_ids.specs.declared.ids.Stamp.{Stamp}
use Rattle.locus_ids.specs.declared.sites.Members.{Members}
use Rattle.commit_graph.specs.declared.history.Version.{Version}
use Rattle.commit_graph.specs.Grants.{is_read}
use Rattle.commit_graph.specs.Versions.{same_file}
use Rattle.trace_book.specs.Same.{same_epoch}
use Rattle.trace_book.specs.declared.record.Record.{Record}
use Rattle.trace_book.specs.declared.record.Record.TheVariants as says
use Rattle.tree_model.specs.declared.instance.Instance.{Instance}
use Rattle.tree_model.specs.Epochs.{epoch_of, has_joined, is_in}
use Rattle.tree_model.specs.Folds.{Trace}
use Rattle.tree_model.specs.Given.{gives_grant}
use Rattle.tree_model.specs.Histories.{history}
use Rattle.tree_model.specs.Lists.{change_first}
use Rattle.tree_model.specs.Opening.{is_given_by, is_new_file, is_only, is_placed, is_site, making_site, open_refusal, resolving_site}
use Rattle.tree_model.specs.Packs.{sync_site}
use Rattle.tree_model.specs.Same.{same_version}
use Rattle.tree_model.specs.State.{TreeState, copy_of, held_at, held_of, is_granted_here, is_inside, is_make, is_named, is_taken, is_writer, kept_of}
use Rattle.tree_model.specs.Tree.{acted, copy_now, entered, grant_of, joined, left, next, once_acted, once_committed, opened, released, tree_of, with_root, without_make}
use Rattle.tree_laws.specs.of_lawful_trace.Lawful.{MayCome}
use Rattle.tree_laws.specs.of_lawful_trace.SiteRows.{MayJoin}
use Rattle.tree_laws.specs.of_lawful_trace.TreeRows.{MayAdopt, MayCommit, MayGrant, is_stored_at, is_writing}
use Rattle.tree_laws.specs.Following.{RowsAreLawful}
use Rattle.tree_laws.proofs.Names.{same_epoch_eq}
use Rattle.tree_laws.proofs.Owing.{inside_is}
use Rattle.tree_laws.proofs.Orders.Alone.{rows_apart, tree_is, tree_named}
use Rattle.tree_laws.proofs.Orders.Lists.{all_more, all_then, all_without}
use Rattle.tree_laws.proofs.Orders.Standing.{acted_keeps, same_file_eq, same_stamp_eq}
use Rattle.store_laws.proofs.Holdings.Copies.{copy_after, copy_next, join_other, joined_more}
use Rattle.store_laws.proofs.Holdings.Turning.{acted_last, all_passing, all_turned}

-- ---- where an instance is granted ----

pub same_version_is : (a b : Option Stamp) → same_version a b ≡ true → a ≡ b
same_version_is None None k = refl
same_version_is None (Some b) k = absurd (true_false (sym k))
same_version_is (Some a) None k = absurd (true_false (sym k))
same_version_is (Some a) (Some b) k = ap (λ (s : Stamp). Some s) (same_stamp_eq a b k)

none_is : (a : Option Stamp) → is_none a ≡ true → a ≡ None
none_is None k = refl
none_is (Some a) k = absurd (true_false (sym k))

placed_on : (h : List Version) (t : TreeState) (call : CallId) (m : Mode) (f : FileId) (stamp : Option Stamp) (ss : ℕ) → is_placed h t call m f stamp ss ≡ true → stamp ≡ held_at t ss f.ino
placed_on h t call mode.Read f stamp ss k = sym (same_version_is (held_at t ss f.ino) stamp (and_second (is_only (kept_of h t f) stamp) _ k))
placed_on h t call mode.Write f stamp ss k = sym (same_version_is (held_at t ss f.ino) stamp (and_second (is_only (kept_of h t f) stamp) _ k))
placed_on h t call mode.Resolve f stamp ss k = sym (same_version_is (held_at t ss f.ino) stamp (and_second (is_site (resolving_site t call) ss) _ k))
placed_on h t call mode.Mend f stamp ss k = sym (same_version_is (held_at t ss f.ino) stamp (and_second (is_site (sync_site t.config t.group t.members) ss) _ k))
placed_on h t call mode.Make f stamp ss k =
    none_is stamp (and_second (is_new_file t call f ss) (is_none stamp) k)
    ∙ sym (none_is (held_at t ss f.ino) (and_first (is_none (held_at t ss f.ino)) (not (is_taken t f)) (and_second (is_given_by ss f.ino) _ (and_second (is_site (making_site t call) ss) _ (and_first (is_new_file t call f ss) (is_none stamp) k)))))

-- what is granted is placed as the tree says
pub granted_placed : (h : List Version) (t : TreeState) (call : CallId) (i : Serial) (m : Mode) (f : FileId) (stamp : Option Stamp) (ss : ℕ) → gives_grant h t call i m f stamp ss ≡ true → is_placed h t call m f stamp ss ≡ true
granted_placed h t call i m f stamp ss k = and_second _ _ (and_second _ _ (and_second (is_none (open_refusal h t m call f)) _ (and_second t.started _ k)))

pub granted_on : (h : List Version) (t : TreeState) (call : CallId) (i : Serial) (m : Mode) (f : FileId) (stamp : Option Stamp) (ss : ℕ) → gives_grant h t call i m f stamp ss ≡ true → stamp ≡ held_at t ss f.ino
granted_on h t call i m f stamp ss k = placed_on h t call m f stamp ss (granted_placed h t call i m f stamp ss k)

-- ---- an open instance and its site ----

pub record Seat (e : EpochId) (g : ℕ) (before : Trace) (t : TreeState) (x : Instance) : Type 0 where
  pub group_is : x.grant.file.group ≡ g
  pub joined : has_joined before x.grant.ss e ≡ true
  pub last_is : x.work.last ≡ held_at t x.grant.ss x.grant.file.ino
  pub made : (s : Stamp) → x.work.committed ≡ Some s → x.work.last ≡ Some s
  pub reads : is_read x.grant.mode ≡ true → x.work.committed ≡ None

seat_moves : (e : EpochId) (g : ℕ) (before after : Trace) (t u : TreeState) (x : Instance) → held_at u x.grant.ss x.grant.file.ino ≡ held_at t x.grant.ss x.grant.file.ino → (has_joined before x.grant.ss e ≡ true → has_joined after x.grant.ss e ≡ true) → Seat e g before t x → Seat e g after u x
seat_moves e g before after t u x same more k = record { group_is = k.group_is; joined = more k.joined; last_is = k.last_is ∙ sym same; made = k.made; reads = k.reads }

-- what a site has in the epoch after a commit or an adoption
pub held_written : (t : TreeState) (f : FileId) (z : ℕ) (stamp : Stamp) (s i : ℕ) →
    held_of (cond (f.group == t.group) (cond ((z == s) && (f.ino == i)) (Some (copy_now t z f.ino stamp)) (copy_of t.copies s i)) (copy_of t.copies s i))
    ≡ cond (is_inside t z) (cond (f.group == t.group) (cond ((z == s) && (f.ino == i)) (Some stamp) (held_at t s i)) (held_at t s i)) (held_at t s i)
held_written t f z stamp s i = over (is_inside t z) (f.group == t.group) (z == s) (f.ino == i) refl refl
  where
    over : (n a d b : Bool) → (z == s) ≡ d → (f.ino == i) ≡ b → held_of (cond a (cond (d && b) (Some (record { site = z; ino = f.ino; now = stamp; held = cond n (Some stamp) (held_at t z f.ino) })) (copy_of t.copies s i)) (copy_of t.copies s i))
        ≡ cond n (cond a (cond (d && b) (Some stamp) (held_at t s i)) (held_at t s i)) (held_at t s i)
    over true true true true k l = refl
    over true true true false k l = refl
    over true true false b k l = refl
    over true false d b k l = refl
    over false true true true k l = ap (λ (n : ℕ). held_at t n f.ino) (equal z s k) ∙ ap (λ (n : ℕ). held_at t s n) (equal f.ino i l)
    over false true true false k l = refl
    over false true false b k l = refl
    over false false d b k l = refl

module _ (c : Config) (e : EpochId) (g : ℕ) (before : Trace) (rows : RowsAreLawful c before) (old : AllByRecursion (Seat e g before (tree_of c e g before)) (tree_of c e g before).instances) where
  abbrev t : TreeState
  t = tree_of c e g before

  abbrev h : List Version
  h = history c before

  abbrev Then : Record → Type 0
  Then r = AllByRecursion (Seat e g (record { line = 0; what = r } ∷ before) (next h r t)) (next h r t).instances

  named : (t.epoch ≡ e) × (t.group ≡ g)
  named = tree_named c e g before

  held_next : (r : Record) (s i : ℕ) → held_at (next h r t) s i ≡ held_of (copy_after r t s i)
  held_next r s i = ap held_of (copy_next h t r s i)

  abbrev After : Record → Instance → Type 0
  After r x = Seat e g (record { line = 0; what = r } ∷ before) (next h r t) x

  moves : (r : Record) (x : Instance) → held_at (next h r t) x.grant.ss x.grant.file.ino ≡ held_at t x.grant.ss x.grant.file.ino → Seat e g before t x → After r x
  moves r x same k = seat_moves e g before (record { line = 0; what = r } ∷ before) t (next h r t) x same (joined_more r 0 before x.grant.ss e) k

  -- who is inside the tree is in the epoch that the row names
  epoch_named : (z : ℕ) (d : EpochId) → is_inside t z ≡ true → epoch_of before z ≡ Some d → d ≡ e
  epoch_named z d inside at = same_epoch_eq d e (sym (ap (λ (o : Option EpochId). is_in o e) at) ∙ (sym (inside_is c before e g z) ∙ inside))

  -- ---- commits ----

  module _ (f : FileId) (z : ℕ) (stamp : Stamp) (parents : List Stamp) (content : List ℕ) (may : MayCommit c before f z stamp parents content) where
    abbrev r : Record
    r = says.Commit f z stamp parents content

    outside : (n : Bool) → is_inside t z ≡ n → n ≡ false → (s i : ℕ) → held_at (next h r t) s i ≡ held_at t s i
    outside n k unlike s i = held_next r s i ∙ (held_written t f z stamp s i ∙ ap (λ (b : Bool). cond b (cond (f.group == t.group) (cond ((z == s) && (f.ino == i)) (Some stamp) (held_at t s i)) (held_at t s i)) (held_at t s i)) (k ∙ unlike))

    elsewhere : (f.group == t.group) ≡ false → (s i : ℕ) → held_at (next h r t) s i ≡ held_at t s i
    elsewhere unlike s i = held_next r s i ∙ (held_written t f z stamp s i ∙ over (is_inside t z))
      where
        over : (b : Bool) → cond b (cond (f.group == t.group) (cond ((z == s) && (f.ino == i)) (Some stamp) (held_at t s i)) (held_at t s i)) (held_at t s i) ≡ held_at t s i
        over true = ap (λ (b : Bool). cond b (cond ((z == s) && (f.ino == i)) (Some stamp) (held_at t s i)) (held_at t s i)) unlike
        over false = refl

    within : is_inside t z ≡ true → (f.group == t.group) ≡ true → (s i : ℕ) → held_at (next h r t) s i ≡ cond ((z == s) && (f.ino == i)) (Some stamp) (held_at t s i)
    within inside same s i = held_next r s i ∙ (held_written t f z stamp s i
        ∙ (ap (λ (b : Bool). cond b (cond (f.group == t.group) (cond ((z == s) && (f.ino == i)) (Some stamp) (held_at t s i)) (held_at t s i)) (held_at t s i)) inside
        ∙ ap (λ (b : Bool). cond b (cond ((z == s) && (f.ino == i)) (Some stamp) (held_at t s i)) (held_at t s i)) same))

    -- it is the one writer of its file
    one : is_inside t z ≡ true → (f.group == t.group) ≡ true → filter (is_writing f) t.instances ≡ may.instance ∷ []
    one inside same = subst (λ (u : TreeState). filter (is_writing f) u.instances ≡ may.instance ∷ []) (tree_is c e may.epoch g f.group before (epoch_named z may.epoch inside may.inside) (equal f.group t.group same ∙ named.1)) may.one

    other_ino : (x : Instance) → (f.group == t.group) ≡ true → x.grant.file.group ≡ g → same_file x.grant.file f ≡ false → (b : Bool) → (f.ino == x.grant.file.ino) ≡ b → b ≡ false
    other_ino x same mine unlike false k = refl
    other_ino x same mine unlike true k = absurd (true_false (sym (both (x.grant.file.group == f.group) (x.grant.file.ino == f.ino) group_is ino_is) ∙ unlike))
      where
        both : (a b : Bool) → a ≡ true → b ≡ true → a && b ≡ true
        both true b p q = q
        both false b p q = absurd (true_false (sym p))

        group_is : (x.grant.file.group == f.group) ≡ true
        group_is = subst (λ (n : ℕ). (x.grant.file.group == n) ≡ true) (mine ∙ (sym named.1 ∙ sym (equal f.group t.group same))) (equal_self x.grant.file.group)

        ino_is : (x.grant.file.ino == f.ino) ≡ true
        ino_is = subst (λ (n : ℕ). (n == f.ino) ≡ true) (equal f.ino x.grant.file.ino k) (equal_self f.ino)

    keeps : (inside : is_inside t z ≡ true) (same : (f.group == t.group) ≡ true) (x : Instance) → same_file x.grant.file f ≡ false → Seat e g before t x → After r x
    keeps inside same x unlike k = moves r x (within inside same x.grant.ss x.grant.file.ino
        ∙ (ap (λ (b : Bool). cond ((z == x.grant.ss) && b) (Some stamp) (held_at t x.grant.ss x.grant.file.ino)) (other_ino x same k.group_is unlike (f.ino == x.grant.file.ino) refl)
        ∙ never (z == x.grant.ss))) k
      where
        never : (b : Bool) → cond (b && false) (Some stamp) (held_at t x.grant.ss x.grant.file.ino) ≡ held_at t x.grant.ss x.grant.file.ino
        never true = refl
        never false = refl

    turns : (inside : is_inside t z ≡ true) (same : (f.group == t.group) ≡ true) (x : Instance) → is_writer f z x ≡ true → Seat e g before t x → After r (once_committed stamp x)
    turns inside same x writes k = record {
      group_is = k.group_is;
      joined = k.joined;
      last_is = sym (within inside same x.grant.ss x.grant.file.ino ∙ ap (λ (b : Bool). cond b (Some stamp) (held_at t x.grant.ss x.grant.file.ino)) here);
      made = λ s q. q;
      reads = λ q. absurd (true_false (sym q ∙ un (is_read x.grant.mode) (and_second (x.grant.ss == z) _ (and_second (same_file x.grant.file f) _ writes))));
    }
      where
        un : (b : Bool) → not b ≡ true → b ≡ false
        un true q = absurd (true_false (sym q))
        un false q = refl

        both : (a b : Bool) → a ≡ true → b ≡ true → a && b ≡ true
        both true b p q = q
        both false b p q = absurd (true_false (sym p))

        here : (z == x.grant.ss) && (f.ino == x.grant.file.ino) ≡ true
        here = both (z == x.grant.ss) (f.ino == x.grant.file.ino)
            (subst (λ (n : ℕ). (z == n) ≡ true) (sym (equal x.grant.ss z (and_first (x.grant.ss == z) _ (and_second (same_file x.grant.file f) _ writes)))) (equal_self z))
            (subst (λ (y : FileId). (f.ino == y.ino) ≡ true) (sym (same_file_eq x.grant.file f (and_first (same_file x.grant.file f) _ writes))) (equal_self f.ino))

    commit_seats : AllByRecursion (After r) (cond (is_inside t z) (change_first (is_writer f z) (once_committed stamp) t.instances) t.instances)
    commit_seats = over (is_inside t z) refl (f.group == t.group) refl
      where
        strange : (f.group == t.group) ≡ false → (x : Instance) → is_writer f z x ≡ true → Seat e g before t x → After r (once_committed stamp x)
        strange unlike x writes k = absurd (true_false (sym (subst (λ (n : ℕ). (f.group == n) ≡ true) (ap (λ (y : FileId). y.group) (sym (same_file_eq x.grant.file f (and_first (same_file x.grant.file f) _ writes))) ∙ (k.group_is ∙ sym named.1)) (equal_self f.group)) ∙ unlike))

        over : (n : Bool) → is_inside t z ≡ n → (a : Bool) → (f.group == t.group) ≡ a → AllByRecursion (After r) (cond n (change_first (is_writer f z) (once_committed stamp) t.instances) t.instances)
        over true inside true same = all_turned f z may.instance (once_committed stamp) (Seat e g before t) (After r) (keeps inside same) (turns inside same) may.at t.instances (rows_apart c before rows e g).alone (one inside same) old
        over true inside false unlike = all_passing (Seat e g before t) (After r) (is_writer f z) (once_committed stamp) (λ x k. moves r x (elsewhere unlike x.grant.ss x.grant.file.ino) k) (strange unlike) t.instances old
        over false out a k = all_then (Seat e g before t) (After r) (λ x k. moves r x (outside false out refl x.grant.ss x.grant.file.ino) k) t.instances old

  -- ---- adoptions ----

  module _ (f : FileId) (z : ℕ) (stamp : Stamp) (may : MayAdopt c before f z stamp) where
    abbrev adoption : Record
    adoption = says.Adopt f z stamp

    -- no instance there is of the file
    adopts : (xs : List Instance) → (is_inside t z ≡ true → (f.group == t.group) ≡ true → list_any (is_stored_at z f) xs ≡ false) → AllByRecursion (Seat e g before t) xs → AllByRecursion (After adoption) xs
    adopts [] shut all = tt
    adopts (x ∷ xs) shut all = (
      moves adoption x (held_next adoption x.grant.ss x.grant.file.ino ∙ (held_written t f z stamp x.grant.ss x.grant.file.ino ∙ over (is_inside t z) refl (f.group == t.group) refl (z == x.grant.ss) refl (f.ino == x.grant.file.ino) refl)) all.0,
      adopts xs (λ inside same. later (is_stored_at z f x) (list_any (is_stored_at z f) xs) (shut inside same)) all.1,
    )
      where
        later : (a b : Bool) → a || b ≡ false → b ≡ false
        later true b k = absurd (true_false k)
        later false b k = k

        hit : (same : (f.group == t.group) ≡ true) → (z == x.grant.ss) ≡ true → (f.ino == x.grant.file.ino) ≡ true → is_stored_at z f x ≡ true
        hit same at ino = both (x.grant.ss == z) (x.grant.file.group == f.group) (x.grant.file.ino == f.ino)
            (subst (λ (n : ℕ). (n == z) ≡ true) (equal z x.grant.ss at) (equal_self z))
            (subst (λ (n : ℕ). (x.grant.file.group == n) ≡ true) (all.0.group_is ∙ (sym named.1 ∙ sym (equal f.group t.group same))) (equal_self x.grant.file.group))
            (subst (λ (n : ℕ). (n == f.ino) ≡ true) (equal f.ino x.grant.file.ino ino) (equal_self f.ino))
          where
            both : (a b d : Bool) → a ≡ true → b ≡ true → d ≡ true → a && (b && d) ≡ true
            both true true d p q s = s
            both true false d p q s = absurd (true_false (sym q))
            both false b d p q s = absurd (true_false (sym p))

        clash : (a b : Bool) → a || b ≡ false → a ≡ true → ⊥
        clash true b k p = true_false k
        clash false b k p = true_false (sym p)

        over : (n : Bool) → is_inside t z ≡ n → (a : Bool) → (f.group == t.group) ≡ a → (d : Bool) → (z == x.grant.ss) ≡ d → (b : Bool) → (f.ino == x.grant.file.ino) ≡ b
            → cond n (cond a (cond (d && b) (Some stamp) (held_at t x.grant.ss x.grant.file.ino)) (held_at t x.grant.ss x.grant.file.ino)) (held_at t x.grant.ss x.grant.file.ino) ≡ held_at t x.grant.ss x.grant.file.ino
        over true inside true same true at true ino = absurd (clash (is_stored_at z f x) (list_any (is_stored_at z f) xs) (shut inside same) (hit same at ino))
        over true inside true same true at false ino = refl
        over true inside true same false at b ino = refl
        over true inside false same d at b ino = refl
        over false inside a same d at b ino = refl

    adopt_seats : AllByRecursion (After adoption) t.instances
    adopt_seats = adopts t.instances (λ inside same. subst (λ (u : TreeState). list_any (is_stored_at z f) u.instances ≡ false) (tree_is c e may.epoch g f.group before (epoch_named z may.epoch inside may.inside) (equal f.group t.group same ∙ named.1)) may.shut) old

  -- ---- joins and grants ----

  join_seats : (z : ℕ) (d : EpochId) (m : Members) → MayJoin c before z d m → Then (says.Join z d m)
  join_seats z d m may = subst (λ (xs : List Instance). AllByRecursion (After (says.Join z d m)) xs) (sym (same (same_epoch d t.epoch))) (all_then (Seat e g before t) (After (says.Join z d m)) (λ x k. moves (says.Join z d m) x (held_next (says.Join z d m) x.grant.ss x.grant.file.ino ∙ over x k (same_epoch d t.epoch) refl) k) t.instances old)
    where
      same : (b : Bool) → (cond b (joined z m t) (left z t)).instances ≡ t.instances
      same true = refl
      same false = refl

      -- who has joined is another one
      apart : (x : Instance) → Seat e g before t x → same_epoch d t.epoch ≡ true → (b : Bool) → (z == x.grant.ss) ≡ b → b ≡ false
      apart x k q false p = refl
      apart x k q true p = absurd (true_false (sym k.joined ∙ (ap (λ (n : ℕ). has_joined before n e) (sym (equal z x.grant.ss p)) ∙ (ap (λ (y : EpochId). has_joined before z y) (sym (same_epoch_eq d t.epoch q ∙ named.0)) ∙ may.new))))

      over : (x : Instance) → Seat e g before t x → (b : Bool) → same_epoch d t.epoch ≡ b → held_of (cond b (option_map (entered z) (copy_of (with_root t z) x.grant.ss x.grant.file.ino)) (copy_of t.copies x.grant.ss x.grant.file.ino)) ≡ held_at t x.grant.ss x.grant.file.ino
      over x k true q = ap held_of (join_other t z x.grant.ss x.grant.file.ino (apart x k q (z == x.grant.ss) refl))
      over x k false q = refl

  grant_seats : (d : EpochId) (call : CallId) (request : ℕ) (i : Serial) (m : Mode) (f : FileId) (stamp : Option Stamp) (ss : ℕ) → MayGrant c before d call request i m f stamp ss → Then (says.Grant d call request i m f stamp ss)
  grant_seats d call request i m f stamp ss may = over (same_epoch d t.epoch) refl (f.group == t.group) refl
    where
      moved : AllByRecursion (After (says.Grant d call request i m f stamp ss)) t.instances
      moved = all_then (Seat e g before t) (After (says.Grant d call request i m f stamp ss)) (λ x k. moves (says.Grant d call request i m f stamp ss) x (held_next (says.Grant d call request i m f stamp ss) x.grant.ss x.grant.file.ino) k) t.instances old

      given : same_epoch d t.epoch ≡ true → (f.group == t.group) ≡ true → gives_grant h t call i m f stamp ss ≡ true
      given q p = subst (λ (u : TreeState). gives_grant h u call i m f stamp ss ≡ true) (tree_is c e d g f.group before (same_epoch_eq d t.epoch q ∙ named.0) (equal f.group t.group p ∙ named.1)) may.gives

      new : same_epoch d t.epoch ≡ true → (f.group == t.group) ≡ true → After (says.Grant d call request i m f stamp ss) (opened h (grant_of t call i m f ss) stamp)
      new q p = record {
        group_is = equal f.group t.group p ∙ named.1;
        joined = subst (λ (y : EpochId). has_joined before ss y ≡ true) (same_epoch_eq d t.epoch q ∙ named.0) may.there;
        last_is = granted_on h t call i m f stamp ss (given q p) ∙ sym (held_next (says.Grant d call request i m f stamp ss) ss f.ino);
        made = λ s k. absurd (none_some s k);
        reads = λ k. refl;
      }

      over : (a : Bool) → same_epoch d t.epoch ≡ a → (b : Bool) → (f.group == t.group) ≡ b → AllByRecursion (After (says.Grant d call request i m f stamp ss)) (cond a (record t { grants = t.grants ++ grant_of t call i m f ss ∷ []; instances = cond b (t.instances ++ opened h (grant_of t call i m f ss) stamp ∷ []) t.instances }) t).instances
      over true q true p = all_more (After (says.Grant d call request i m f stamp ss)) t.instances (opened h (grant_of t call i m f ss) stamp) moved (new q p)
      over true q false p = moved
      over false q b p = moved

  -- ---- record by record ----

  stay : (r : Record) → ((s i : ℕ) → copy_after r t s i ≡ copy_of t.copies s i) → AllByRecursion (After r) t.instances
  stay r same = all_then (Seat e g before t) (After r) (λ x k. moves r x (held_next r x.grant.ss x.grant.file.ino ∙ ap held_of (same x.grant.ss x.grant.file.ino)) k) t.instances old

  next_seats : (r : Record) → MayCome c before r → Then r
  next_seats (says.Join z d m) may = join_seats z d m may
  next_seats (says.Commit f z stamp parents content) may = commit_seats f z stamp parents content may
  next_seats (says.Adopt f z stamp) may = adopt_seats f z stamp may
  next_seats (says.Grant d call request i m f stamp ss) may = grant_seats d call request i m f stamp ss may
  next_seats (says.Start d k copies) may = over (same_epoch d t.epoch && (k == t.group))
    where
      over : (b : Bool) → AllByRecursion (After (says.Start d k copies)) (cond b (record t { started = true }) t).instances
      over true = stay (says.Start d k copies) (λ s i. refl)
      over false = stay (says.Start d k copies) (λ s i. refl)
  next_seats (says.Refuse d call request i m f why) may = over (same_epoch d t.epoch && ((f.group == t.group) && is_make m))
    where
      over : (b : Bool) → AllByRecursion (After (says.Refuse d call request i m f why)) (cond b (record t { makes = without_make call t.makes }) t).instances
      over true = stay (says.Refuse d call request i m f why) (λ s i. refl)
      over false = stay (says.Refuse d call request i m f why) (λ s i. refl)
  next_seats (says.Act d i n o result) may = over (same_epoch d t.epoch && is_granted_here t i)
    where
      acts : (x : Instance) → After (says.Act d i n o result) x → After (says.Act d i n o result) (once_acted h t o result x)
      acts x k = record {
        group_is = k.group_is;
        joined = k.joined;
        last_is = acted_last h t o result x ∙ k.last_is;
        made = λ s q. acted_last h t o result x ∙ k.made s (sym (acted_keeps h t o result x) ∙ q);
        reads = λ q. acted_keeps h t o result x ∙ k.reads q;
      }

      over : (b : Bool) → AllByRecursion (After (says.Act d i n o result)) (cond b (acted h i o result t) t).instances
      over true = all_passing (After (says.Act d i n o result)) (After (says.Act d i n o result)) (is_named i) (once_acted h t o result) (λ x k. k) (λ x q k. acts x k) t.instances (stay (says.Act d i n o result) (λ s i. refl))
      over false = stay (says.Act d i n o result) (λ s i. refl)
  next_seats (says.Release d i f stamp) may = over (same_epoch d t.epoch && (f.group == t.group))
    where
      over : (b : Bool) → AllByRecursion (After (says.Release d i f stamp)) (cond b (released i f stamp t) t).instances
      over true = all_without (After (says.Release d i f stamp)) (is_named i) t.instances (stay (says.Release d i f stamp) (λ s i. refl))
      over false = stay (says.Release d i f stamp) (λ s i. refl)
  next_seats r may = stay r (λ s i. refl)

pub rows_seated : (c : Config) (trace : Trace) → RowsAreLawful c trace → (e : EpochId) (g : ℕ) → AllByRecursion (Seat e g trace (tree_of c e g trace)) (tree_of c e g trace).instances
rows_seated c [] rows e g = tt
rows_seated c (r ∷ before) rows e g = all_then _ (Seat e g (r ∷ before) (tree_of c e g (r ∷ before))) (λ x k. record { group_is = k.group_is; joined = k.joined; last_is = k.last_is; made = k.made; reads = k.reads }) (tree_of c e g (r ∷ before)).instances (next_seats c e g before rows.1 (rows_seated c before rows.1 e g) r.what rows.0)

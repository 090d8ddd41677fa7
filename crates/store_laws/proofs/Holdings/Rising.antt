-- What a site has of a file in an epoch only rises: whatever was below it stays below it.
use Rattle.std.proofs.Common.{◌≡◌, ℕ, ◌==◌, Bool, true, false, not, ◌&&◌, ◌||◌, cond, List, [], ◌∷◌, filter, Option, Some, None, refl, sym, ap, ◌∙◌, subst, ◌⊎◌, inl, inr}
use Rattle.std.specs.List.{AllByRecursion, list_any}
use Rattle.std.specs.Option.{is_none, is_some, option_map}
use Rattle.tree_laws.proofs.of_plain_facts.Numbers.{equal, equal_self}
use Rattle.tree_laws.proofs.of_plain_facts.Tests.{and_first, and_second, or_second, true_false}
use Rattle.locus_ids.specs.declared.config.Config.{Config}
use Rattle.locus_ids.specs.declared.ids.EpochId.{EpochId}
use Rattle.locus_ids.specs.declared.ids.FileId.{FileId}
use Rattle.locus_ids.specs.declared.ids.Stamp.{Stamp}
use Rattle.locus_ids.specs.declared.sites.Members.{Members}
use Rattle.commit_graph.specs.declared.history.Version.{Version}
use Rattle.commit_graph.specs.Grants.{is_read}
use Rattle.commit_graph.specs.Versions.{is_ancestor, is_covered, is_in, is_version, kept, same_file, same_stamp}
use Rattle.commit_graph.proofs.Names.{same_stamp_refl, same_stamp_eq}
use Rattle.trace_book.specs.Same.{same_epoch}
use Rattle.trace_book.specs.declared.record.Record.{Record}
use Rattle.trace_book.specs.declared.record.Record.TheVariants as says
use Rattle.site_laws.specs.of_role_steps.Views.{Told, Shown}
use Rattle.tree_laws.specs.of_the_run.Worlds.{Line}
use Rattle.tree_model.specs.declared.instance.Instance.{Instance}
use Rattle.tree_model.specs.Epochs.{epoch_of, has_joined, is_in as is_at}
use Rattle.tree_model.specs.Folds.{Trace}
use Rattle.tree_model.specs.Histories.{held, history}
use Rattle.tree_model.specs.State.{TreeState, copy_of, has_stamp, held_at, held_of, is_inside, kept_of}
use Rattle.tree_model.specs.Tree.{candidates, copy_now, entered, next, tree_of, with_root}
use Rattle.tree_model.specs.Working.{list_of, merges}
use Rattle.tree_laws.specs.of_lawful_trace.Lawful.{MayCome}
use Rattle.tree_laws.specs.of_lawful_trace.TreeRows.{MayAdopt, MayCommit, is_above, is_writing}
use Rattle.tree_laws.specs.Following.{IsFollowed, MayTell, RowsAreLawful}
use Rattle.tree_laws.specs.Instances.{HasAtLeast, IsKnown}
use Rattle.tree_laws.specs.Printed.{entries, onto_entries}
use Rattle.tree_laws.proofs.Names.{same_epoch_eq}
use Rattle.tree_laws.proofs.Owing.{inside_is}
use Rattle.tree_laws.proofs.Rows.{followed_rows}
use Rattle.tree_laws.proofs.Orders.Alone.{tree_is, tree_named}
use Rattle.tree_laws.proofs.Orders.Keeping.{IsNew}
use Rattle.store_laws.specs.Holdings.Order.{IsWellMade}
use Rattle.store_laws.proofs.Holdings.Ancestors.{KeptAbove, ancestor_before, ancestor_newest, ancestor_through, any_then, kept_above, some_of}
use Rattle.store_laws.proofs.Holdings.Copies.{copies_are, copy_after, copy_next, join_other}
use Rattle.store_laws.proofs.Holdings.Known.{AheadAt, held_known, is_ahead}
use Rattle.store_laws.proofs.Holdings.Made.{CommitsAreNew, candidates_stand, committed_file, committed_seat, held_stand, rows_made}
use Rattle.store_laws.proofs.Holdings.Packed.{PacksHold}
use Rattle.store_laws.proofs.Holdings.Seats.{Seat, rows_seated}

-- ---- what is known is below what is kept ----

pub member_stands : (P : Stamp → Type 0) (ss : List Stamp) (s : Stamp) → has_stamp ss s ≡ true → AllByRecursion P ss → P s
member_stands P ss s mine all = (let k = some_of (λ t. same_stamp t s) P ss mine all in subst P (same_stamp_eq k.one s k.passes) k.is_so)

pub known_stands : (c : Config) (before : Trace) → RowsAreLawful c before → (e : EpochId) (f : FileId) (v : Stamp) → has_stamp (candidates c before e f) v ≡ true → is_in (history c before) f v ≡ true
known_stands c before rows e f v k = member_stands (λ s. is_in (history c before) f s ≡ true) (candidates c before e f) v k (candidates_stand c before rows e f)

-- each version that is known in an epoch is below one that is kept there
pub known_kept : (c : Config) (before : Trace) (rows : RowsAreLawful c before) (new : CommitsAreNew c before) (e : EpochId) (f : FileId) (v : Stamp) → has_stamp (candidates c before e f) v ≡ true →
    KeptAbove (history c before) (rows_made c before rows new) f (candidates c before e f) v
known_kept c before rows new e f v k = kept_above (history c before) (rows_made c before rows new) f (candidates c before e f) v k (known_stands c before rows e f v k) (candidates_stand c before rows e f)

-- ---- where a record writes ----

-- the site comes to have the version in the epoch
pub record Hit (t : TreeState) (f : FileId) (z : ℕ) (s i : ℕ) : Type 0 where
  pub inside : is_inside t z ≡ true
  pub group_is : (f.group == t.group) ≡ true
  pub site_is : z ≡ s
  pub ino_is : f.ino ≡ i

pub written_or : (t : TreeState) (f : FileId) (z : ℕ) (stamp : Stamp) (s i : ℕ) →
    (held_of (cond (f.group == t.group) (cond ((z == s) && (f.ino == i)) (Some (copy_now t z f.ino stamp)) (copy_of t.copies s i)) (copy_of t.copies s i)) ≡ held_at t s i)
    ⊎ (Hit t f z s i × (held_of (cond (f.group == t.group) (cond ((z == s) && (f.ino == i)) (Some (copy_now t z f.ino stamp)) (copy_of t.copies s i)) (copy_of t.copies s i)) ≡ Some stamp))
written_or t f z stamp s i = over (is_inside t z) refl (f.group == t.group) refl (z == s) refl (f.ino == i) refl
  where
    over : (n : Bool) → is_inside t z ≡ n → (a : Bool) → (f.group == t.group) ≡ a → (d : Bool) → (z == s) ≡ d → (b : Bool) → (f.ino == i) ≡ b →
        (held_of (cond a (cond (d && b) (Some (record { site = z; ino = f.ino; now = stamp; held = cond n (Some stamp) (held_at t z f.ino) })) (copy_of t.copies s i)) (copy_of t.copies s i)) ≡ held_at t s i)
        ⊎ (Hit t f z s i × (held_of (cond a (cond (d && b) (Some (record { site = z; ino = f.ino; now = stamp; held = cond n (Some stamp) (held_at t z f.ino) })) (copy_of t.copies s i)) (copy_of t.copies s i)) ≡ Some stamp))
    over true p true q true l true m = inr (record { inside = p; group_is = q; site_is = equal z s l; ino_is = equal f.ino i m }, refl)
    over false p true q true l true m = inl (ap (λ (n : ℕ). held_at t n f.ino) (equal z s l) ∙ ap (λ (n : ℕ). held_at t s n) (equal f.ino i m))
    over n p true q true l false m = inl refl
    over n p true q false l b m = inl refl
    over n p false q d l b m = inl refl

pub joined_or : (t : TreeState) (d : EpochId) (z s i : ℕ) → (held_of (cond (same_epoch d t.epoch) (option_map (entered z) (copy_of (with_root t z) s i)) (copy_of t.copies s i)) ≡ held_at t s i) ⊎ ((d ≡ t.epoch) × (z ≡ s))
joined_or t d z s i = over (same_epoch d t.epoch) refl (z == s) refl
  where
    over : (a : Bool) → same_epoch d t.epoch ≡ a → (b : Bool) → (z == s) ≡ b → (held_of (cond a (option_map (entered z) (copy_of (with_root t z) s i)) (copy_of t.copies s i)) ≡ held_at t s i) ⊎ ((d ≡ t.epoch) × (z ≡ s))
    over true p true q = inr (same_epoch_eq d t.epoch p, equal z s q)
    over true p false q = inl (ap held_of (join_other t z s i q))
    over false p b q = inl refl

-- ---- one record more ----

any_kept_all : {X : Type 0} (q p : X → Bool) (P : X → Type 0) → ((x : X) → P x → q x ≡ true → p x ≡ true) → (xs : List X) → AllByRecursion P xs → list_any q xs ≡ true → list_any q (filter p xs) ≡ true
any_kept_all q p P then [] all h = absurd (true_false (sym h))
any_kept_all q p P then (x ∷ xs) all h = at (p x) refl (either (q x) (list_any q xs) h) (any_kept_all q p P then xs all.1)
  where
    either : (a b : Bool) → a || b ≡ true → (a ≡ true) ⊎ (b ≡ true)
    either true b h = inl refl
    either false b h = inr h

    first : (a b : Bool) → a ≡ true → a || b ≡ true
    first true b k = refl
    first false b k = absurd (true_false (sym k))

    at : (b : Bool) → p x ≡ b → (q x ≡ true) ⊎ (list_any q xs ≡ true) → (list_any q xs ≡ true → list_any q (filter p xs) ≡ true) → list_any q (cond b (x ∷ filter p xs) (filter p xs)) ≡ true
    at true e (inl k) later = first (q x) (list_any q (filter p xs)) k
    at true e (inr k) later = or_second (q x) (list_any q (filter p xs)) (later k)
    at false e (inl k) later = absurd (true_false (sym (then x all.0 k) ∙ e))
    at false e (inr k) later = later k

module _ (c : Config) (older : List Line) (n : ℕ) (followed : IsFollowed c older) (packs : PacksHold c (entries older)) (new : CommitsAreNew c (entries older)) (e : EpochId) (s : ℕ) (f : FileId) where
  abbrev before : Trace
  before = entries older

  abbrev t : TreeState
  t = tree_of c e f.group before

  abbrev h : List Version
  h = history c before

  abbrev rows : RowsAreLawful c before
  rows = followed_rows c older followed

  abbrev made : IsWellMade h
  made = rows_made c before rows new

  named : (t.epoch ≡ e) × (t.group ≡ f.group)
  named = tree_named c e f.group before

  epoch_named : (z : ℕ) (d : EpochId) → is_inside t z ≡ true → epoch_of before z ≡ Some d → d ≡ e
  epoch_named z d inside at = same_epoch_eq d e (sym (ap (λ (o : Option EpochId). is_at o e) at) ∙ (sym (inside_is c before e f.group z) ∙ inside))

  in_epoch : (z : ℕ) (d : EpochId) → is_inside t z ≡ true → epoch_of before z ≡ Some d → epoch_of before z ≡ Some e
  in_epoch z d inside at = at ∙ ap (λ (y : EpochId). Some y) (epoch_named z d inside at)

  file_is : (g : FileId) (z : ℕ) → Hit t g z s f.ino → g ≡ f
  file_is g z k = (λ i. record { group = (equal g.group t.group k.group_is ∙ named.1) i; ino = k.ino_is i })

  -- what is below a version that is known is below a kept one
  below_kept : (v now : Stamp) → is_ancestor h f v now ≡ true → IsKnown c older e f now → list_any (is_ancestor h f v) (kept_of h t f) ≡ true
  below_kept v now above known = over (known_kept c before rows new e f now known)
    where
      over : KeptAbove h made f (candidates c before e f) now → list_any (is_ancestor h f v) (kept_of h t f) ≡ true
      over k = any_then (λ a. same_stamp a k.top) (is_ancestor h f v) (λ (a : Stamp). Unit {0}) (λ a u same. subst (λ (y : Stamp). is_ancestor h f v y ≡ true) (sym (same_stamp_eq a k.top same)) top) (kept_of h t f) (all_unit (kept_of h t f)) k.is_kept
        where
          all_unit : (xs : List Stamp) → AllByRecursion (λ (a : Stamp). Unit {0}) xs
          all_unit [] = tt
          all_unit (x ∷ xs) = (tt, all_unit xs)

          kept_stands : is_in h f k.top ≡ true
          kept_stands = known_stands c before rows e f k.top (of_kept (candidates c before e f) k.is_kept)
            where
              of_kept : (ss : List Stamp) → has_stamp (kept h f ss) k.top ≡ true → has_stamp ss k.top ≡ true
              of_kept ss m = filtered (λ a. same_stamp a k.top) (λ a. not (is_covered h f ss a)) ss m
                where
                  filtered : (q p : Stamp → Bool) (xs : List Stamp) → list_any q (filter p xs) ≡ true → list_any q xs ≡ true
                  filtered q p [] l = l
                  filtered q p (x ∷ xs) l = at (p x) l (filtered q p xs)
                    where
                      at : (b : Bool) → list_any q (cond b (x ∷ filter p xs) (filter p xs)) ≡ true → (list_any q (filter p xs) ≡ true → list_any q xs ≡ true) → q x || list_any q xs ≡ true
                      at true l later = more (q x) l
                        where
                          more : (b : Bool) → b || list_any q (filter p xs) ≡ true → b || list_any q xs ≡ true
                          more true l = refl
                          more false l = later l
                      at false l later = or_second (q x) (list_any q xs) (later l)

          top : is_ancestor h f v k.top ≡ true
          top = ancestor_through h made f v now k.top kept_stands above k.above

  -- an instance that is ahead at the site is the one that writes the file
  ahead_made : (x : Instance) → filter (is_writing f) t.instances ≡ x ∷ [] → AheadAt t s f.ino → is_some x.work.committed ≡ true
  ahead_made x one ahead = of_one (subst (λ (xs : List Instance). list_any (is_ahead s f.ino) xs ≡ true) one
      (any_kept_all (is_ahead s f.ino) (is_writing f) (Seat e f.group before t) writes t.instances (rows_seated c before rows e f.group) ahead))
    where
      of_one : is_ahead s f.ino x || false ≡ true → is_some x.work.committed ≡ true
      of_one k = at (is_ahead s f.ino x) refl k
        where
          at : (b : Bool) → is_ahead s f.ino x ≡ b → b || false ≡ true → is_some x.work.committed ≡ true
          at true q k = and_second ((x.grant.ss == s) && (x.grant.file.ino == f.ino)) _ q
          at false q k = absurd (true_false (sym k))

      writes : (y : Instance) → Seat e f.group before t y → is_ahead s f.ino y ≡ true → is_writing f y ≡ true
      writes y seat k = both (y.grant.file.group == f.group) (y.grant.file.ino == f.ino) (is_read y.grant.mode)
          (subst (λ (m : ℕ). (y.grant.file.group == m) ≡ true) seat.group_is (equal_self y.grant.file.group))
          (and_second (y.grant.ss == s) _ (and_first ((y.grant.ss == s) && (y.grant.file.ino == f.ino)) _ k))
          (reads (is_read y.grant.mode) refl)
        where
          reads : (b : Bool) → is_read y.grant.mode ≡ b → b ≡ false
          reads true q = absurd (true_false (sym (and_second ((y.grant.ss == s) && (y.grant.file.ino == f.ino)) _ k) ∙ ap (λ (o : Option Stamp). is_some o) (seat.reads q)))
          reads false q = refl

          both : (a b d : Bool) → a ≡ true → b ≡ true → d ≡ false → (a && b) && not d ≡ true
          both true true true p q l = absurd (true_false l)
          both true true false p q l = refl
          both true false d p q l = absurd (true_false (sym q))
          both false b d p q l = absurd (true_false (sym p))

  module _ (v : Stamp) (k : HasAtLeast c older e s f v) where
    abbrev Then : Record → Type 0
    Then r = HasAtLeast c (record { number = n; told = Shown r } ∷ older) e s f v

    now_stands : is_in h f k.now ≡ true
    now_stands = held_stand c before rows e f s k.now k.held

    -- nothing is written here, and the history is the same
    stays : (r : Record) → held_at (next h r t) s f.ino ≡ held_at t s f.ino → is_ancestor (history c (record { line = n; what = r } ∷ before)) f v k.now ≡ is_ancestor h f v k.now → Then r
    stays r same older_is = record { now = k.now; held = same ∙ k.held; above = older_is ∙ k.above }

    commit_rises : (g : FileId) (z : ℕ) (stamp : Stamp) (parents : List Stamp) (content : List ℕ) → MayCommit c before g z stamp parents content → is_in h g stamp ≡ false → Then (says.Commit g z stamp parents content)
    commit_rises g z stamp parents content may fresh = over (written_or t g z stamp s f.ino)
      where
        w : Version
        w = record { file = g; site = z; stamp = stamp; parents = parents; content = content }

        tree_same : Hit t g z s f.ino → tree_of c may.epoch g.group before ≡ t
        tree_same hit = tree_is c e may.epoch f.group g.group before (epoch_named z may.epoch hit.inside may.inside) (equal g.group t.group hit.group_is ∙ named.1)

        one : Hit t g z s f.ino → filter (is_writing f) t.instances ≡ may.instance ∷ []
        one hit = subst (λ (y : FileId). filter (is_writing y) t.instances ≡ may.instance ∷ []) (file_is g z hit) (subst (λ (u : TreeState). filter (is_writing g) u.instances ≡ may.instance ∷ []) (tree_same hit) may.one)

        last_now : Hit t g z s f.ino → may.instance.work.last ≡ Some k.now
        last_now hit = (committed_seat c before rows g z stamp parents content may).last_is
            ∙ (ap (λ (y : FileId). held_at (tree_of c may.epoch g.group before) may.instance.grant.ss y.ino) (committed_file c before rows g z stamp parents content may)
            ∙ (ap (λ (u : TreeState). held_at u may.instance.grant.ss g.ino) (tree_same hit)
            ∙ (ap (λ (m : ℕ). held_at t m g.ino) (may.at ∙ hit.site_is)
            ∙ (ap (λ (m : ℕ). held_at t s m) hit.ino_is ∙ k.held))))

        kept_same : Hit t g z s f.ino → kept_of h (tree_of c may.epoch g.group before) may.instance.grant.file ≡ kept_of h t f
        kept_same hit = ap (λ (u : TreeState). kept_of h u may.instance.grant.file) (tree_same hit) ∙ ap (λ (y : FileId). kept_of h t y) (committed_file c before rows g z stamp parents content may ∙ file_is g z hit)

        known : Hit t g z s f.ino → is_none may.instance.work.committed ≡ true → IsKnown c older e f k.now ⊎ AheadAt t s f.ino → IsKnown c older e f k.now
        known hit none (inl m) = m
        known hit none (inr m) = absurd (clash may.instance.work.committed none (ahead_made may.instance (one hit) m))
          where
            clash : (o : Option Stamp) → is_none o ≡ true → is_some o ≡ true → ⊥
            clash None p q = true_false (sym q)
            clash (Some x) p q = true_false (sym p)

        -- what was below the held version is below a parent
        below_parent : Hit t g z s f.ino → list_any (is_ancestor h f v) parents ≡ true
        below_parent hit = subst (λ (ps : List Stamp). list_any (is_ancestor h f v) ps ≡ true) (sym may.above) (at (merges may.instance.grant.mode && is_none may.instance.work.committed) refl)
          where
            alone : (a b : Bool) → a ≡ true → a || b ≡ true
            alone true b q = refl
            alone false b q = absurd (true_false (sym q))

            at : (b : Bool) → merges may.instance.grant.mode && is_none may.instance.work.committed ≡ b → list_any (is_ancestor h f v) (cond b (kept_of h (tree_of c may.epoch g.group before) may.instance.grant.file) (list_of may.instance.work.last)) ≡ true
            at true q = subst (λ (ps : List Stamp). list_any (is_ancestor h f v) ps ≡ true) (sym (kept_same hit))
                (below_kept v k.now k.above (known hit (and_second (merges may.instance.grant.mode) _ q) (held_known c older followed packs e s f k.now k.held)))
            at false q = subst (λ (o : Option Stamp). list_any (is_ancestor h f v) (list_of o) ≡ true) (sym (last_now hit)) (alone (is_ancestor h f v k.now) false k.above)

        own : Hit t g z s f.ino → is_version f stamp w ≡ true
        own hit = ap (λ (y : FileId). same_file g y && same_stamp stamp stamp) (sym (file_is g z hit)) ∙ (ap (λ (b : Bool). b && same_stamp stamp stamp) (same g) ∙ same_stamp_refl stamp)
          where
            same : (y : FileId) → same_file y y ≡ true
            same y = ap (λ (b : Bool). b && (y.ino == y.ino)) (equal_self y.group) ∙ equal_self y.ino

        over : (held_of (copy_after (says.Commit g z stamp parents content) t s f.ino) ≡ held_at t s f.ino) ⊎ (Hit t g z s f.ino × (held_of (copy_after (says.Commit g z stamp parents content) t s f.ino) ≡ Some stamp)) → Then (says.Commit g z stamp parents content)
        over (inl same) = stays (says.Commit g z stamp parents content) (ap held_of (copy_next h t (says.Commit g z stamp parents content) s f.ino) ∙ same) (ancestor_before w h f v k.now fresh now_stands)
        over (inr hit) = record {
          now = stamp;
          held = ap held_of (copy_next h t (says.Commit g z stamp parents content) s f.ino) ∙ hit.1;
          above = ancestor_newest w h f v stamp (own hit.0) ∙ or_second (same_stamp v stamp) (list_any (is_ancestor h f v) parents) (below_parent hit.0);
        }

    adopt_rises : (g : FileId) (z : ℕ) (stamp : Stamp) → MayAdopt c before g z stamp → Then (says.Adopt g z stamp)
    adopt_rises g z stamp may = over (written_or t g z stamp s f.ino)
      where
        -- the site has in the epoch what it has now
        now_held : Hit t g z s f.ino → held c before z g ≡ Some k.now
        now_held hit = ap (λ (y : FileId). held c before z y) (file_is g z hit)
            ∙ (ap (λ (m : ℕ). held c before m f) hit.site_is ∙ (sym ((copies_are c before e f.group s f.ino).held_is (subst (λ (m : ℕ). epoch_of before m ≡ Some e) hit.site_is (in_epoch z may.epoch hit.inside may.inside))) ∙ k.held))

        proper : (x : Bool) → not x && is_ancestor h g k.now stamp ≡ true → is_ancestor h g k.now stamp ≡ true
        proper true q = absurd (true_false (sym q))
        proper false q = q

        above : Hit t g z s f.ino → is_ancestor h f k.now stamp ≡ true
        above hit = subst (λ (y : FileId). is_ancestor h y k.now stamp ≡ true) (file_is g z hit) (proper (same_stamp k.now stamp) (subst (λ (o : Option Stamp). is_above h g o stamp ≡ true) (now_held hit) may.above))

        stands : Hit t g z s f.ino → is_in h f stamp ≡ true
        stands hit = subst (λ (y : FileId). is_in h y stamp ≡ true) (file_is g z hit) (known_stands c before rows may.epoch g stamp may.known)

        over : (held_of (copy_after (says.Adopt g z stamp) t s f.ino) ≡ held_at t s f.ino) ⊎ (Hit t g z s f.ino × (held_of (copy_after (says.Adopt g z stamp) t s f.ino) ≡ Some stamp)) → Then (says.Adopt g z stamp)
        over (inl same) = stays (says.Adopt g z stamp) (ap held_of (copy_next h t (says.Adopt g z stamp) s f.ino) ∙ same) refl
        over (inr hit) = record {
          now = stamp;
          held = ap held_of (copy_next h t (says.Adopt g z stamp) s f.ino) ∙ hit.1;
          above = ancestor_through h made f v k.now stamp (stands hit.0) k.above (above hit.0);
        }

    join_rises : (z : ℕ) (d : EpochId) (m : Members) → MayCome c before (says.Join z d m) → Then (says.Join z d m)
    join_rises z d m may = over (joined_or t d z s f.ino)
      where
        again : (d ≡ t.epoch) × (z ≡ s) → true ≡ false
        again p = sym ((copies_are c before e f.group s f.ino).joined k.now k.held) ∙ (ap (λ (y : ℕ). has_joined before y e) (sym p.1) ∙ (ap (λ (y : EpochId). has_joined before z y) (sym (p.0 ∙ named.0)) ∙ may.new))

        over : (held_of (copy_after (says.Join z d m) t s f.ino) ≡ held_at t s f.ino) ⊎ ((d ≡ t.epoch) × (z ≡ s)) → Then (says.Join z d m)
        over (inl same) = stays (says.Join z d m) (ap held_of (copy_next h t (says.Join z d m) s f.ino) ∙ same) refl
        over (inr p) = absurd (true_false (again p))

    next_rises : (r : Record) → MayTell c older (Shown r) → IsNew c before r → Then r
    next_rises (says.Commit g z stamp parents content) may fresh = commit_rises g z stamp parents content may.row fresh
    next_rises (says.Adopt g z stamp) may fresh = adopt_rises g z stamp may.row
    next_rises (says.Join z d m) may fresh = join_rises z d m may.row
    next_rises r may fresh = stays r (ap held_of (copy_next h t r s f.ino)) refl

pub held_rises : (c : Config) (older : List Line) (n : ℕ) (x : Told) → IsFollowed c older → MayTell c older x → PacksHold c (entries older) → CommitsAreNew c (onto_entries n x (entries older)) →
    (e : EpochId) (s : ℕ) (f : FileId) (v : Stamp) → HasAtLeast c older e s f v → HasAtLeast c (record { number = n; told = x } ∷ older) e s f v
held_rises c older n (Shown r) followed may packs new e s f v k = next_rises c older n followed packs new.1 e s f v k r may new.0
held_rises c older n x followed may packs new e s f v k = record { now = k.now; held = k.held; above = k.above }

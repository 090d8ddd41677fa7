-- What instances that run may store.
use Rattle.std.proofs.Common.{◌≡◌, ◌≤◌, ◌<◌, ◌^◌, ℕ, ◌+◌, ◌-◌, ◌==◌, max, nat_lt, ◌&&◌, cond, Bool, true, false, List, [], ◌∷◌, length, Option, None, Some, refl, sym, ◌∙◌, ap, subst, arith, inl, inr}
use Rattle.std.specs.Option.{option_map}
use Rattle.std.proofs.lemmas.Bool.Decides.{nat_tests}
use Rattle.role_steps.proofs.of_plain_facts.Options.{some_same}
use Rattle.locus_ids.specs.declared.config.Config.{Config}
use Rattle.locus_ids.specs.declared.ids.EpochId.{EpochId}
use Rattle.locus_ids.specs.declared.ids.FileId.{FileId}
use Rattle.locus_ids.specs.declared.ids.Mode.{Mode}
use Rattle.locus_ids.specs.declared.ids.Mode.TheVariants as mode
use Rattle.locus_ids.specs.declared.ids.Serial.{Serial}
use Rattle.locus_ids.specs.declared.ids.Stamp.{Stamp}
use Rattle.locus_ids.specs.Sizes.{inode_span, inodes_max, pack_pages, sites_max}
use Rattle.version_vector.specs.Counters.{part, raised}
use Rattle.commit_graph.specs.Counters.{counter, greatest}
use Rattle.file_content.specs.Pages.{pages_of}
use Rattle.stored_versions.specs.Versions.{AgreesWith, IsStamp}
use Rattle.role_steps.specs.Own.{Every}
use Rattle.role_steps.specs.Storage.{changed_pages, content_of, copy_of, copy_pages, is_open}
use Rattle.role_steps.specs.Tables.{total}
use Rattle.role_steps.specs.Views.{Frame, Store, Told, Begins, Reserves}
use Rattle.role_steps.specs.declared.copies.FileCopy.{FileCopy}
use Rattle.role_steps.specs.declared.instances.Instance.{Instance}
use Rattle.role_steps.specs.declared.instances.Stage.{Stage}
use Rattle.role_steps.specs.declared.instances.Stage.TheVariants as stage
use Rattle.the_run.specs.Worlds.{Line}
use Rattle.site_laws.specs.Vectors.HistoryCommits.{IsSite}
use Rattle.site_laws.specs.Packs.Making.{IsOwnNumber}
use Rattle.site_laws.specs.Packs.Packs.{HasPack, ToldPacked}
use Rattle.tree_model.specs.declared.instance.Instance.{Instance as Open}
use Rattle.tree_model.specs.Files.{HeldVersion, held_version, version_of}
use Rattle.tree_model.specs.Histories.{held, history, stamped_content}
use Rattle.tree_model.specs.Packs.{packs_of}
use Rattle.tree_model.specs.State.{is_named}
use Rattle.tree_model.specs.Tree.{tree_of}
use Rattle.lawful_trace.specs.TreeRows.{granted_group}
use Rattle.tree_laws.specs.Doing.{FrameFact, StoreHeld}
use Rattle.tree_laws.specs.Packets.{JoinsParents}
use Rattle.tree_laws.specs.Past.{BeginsIt, ReservesIt, WasBegun, WasReserved}
use Rattle.tree_laws.specs.Instances.{held_in}
use Rattle.tree_laws.specs.Printed.{entries}
use Rattle.tree_laws.specs.Stores.{InstanceFact, LiesAs, RunsAs, StageFact, WorksAs, copy_for}
use Rattle.tree_laws.proofs.Orders.Lists.{all_found}
use Rattle.store_laws.specs.Rests.{StandsOnHeld, StoreRests}
use Rattle.store_laws.proofs.Raising.{joins_greatest, length_raised, raised_other, raised_same, sixteen}
use Rattle.rest_laws.proofs.StoreStepCounters.{counter_low}
use Rattle.rest_laws.proofs.StoreStepKnown.{inside_site}
use Rattle.rest_laws.proofs.StoreStepResting.{store_rests}
use Rattle.store_laws.specs.OneTree.Rest.{EachRest, Past}
use Rattle.rest_laws.specs.Fits.Inodes.{IsInodeNumber}
use Rattle.rest_laws.specs.Fits.Room.{RoomFits}
use Rattle.rest_laws.specs.Fits.Storing.{AreStorable, MayStore, RunsStorable}
use Rattle.store_laws.specs.Works.Working.{FitsOver}
use Rattle.rest_laws.proofs.Fits.Numbers.{own_inode, stands_inode}
use Rattle.store_laws.proofs.Works.PageLists.{are_pages}
use Rattle.rest_laws.proofs.Fits.Sets.{has_some, made_some, set_some}
use Rattle.rest_laws.proofs.Fits.Versions.{beyond}
use Rattle.store_laws.specs.Works.Working.{Works}
use Rattle.store_laws.proofs.Works.Working.{holds_file, trace_works}
use Rattle.store_laws.proofs.OneTree.Staying.{rest_below}

-- ---- packs and numbers ----

pub begun_packed : (c : Config) (t : List Line) → EachRest c t → (s : ℕ) (e : EpochId) (i : Serial) (f : FileId) → WasBegun t s e i f → HasPack c f.group s
begun_packed c [] h s e i f k = absurd k
begun_packed c (x ∷ older) h s e i f (inr k) = begun_packed c older h.1 s e i f k
begun_packed c (x ∷ older) h s e i f (inl k) = over x.told h.0.packed k
  where
    over : (y : Told) → ToldPacked c y → BeginsIt s e i f older y → HasPack c f.group s
    over (Begins z at inst file) packed k = subst (λ (g : FileId). HasPack c g.group s) k.file_is (subst (HasPack c file.group) k.site_is packed)
    over y packed k = absurd k

reserved_own : (c : Config) (t : List Line) → EachRest c t → (s : ℕ) (e : EpochId) (i : Serial) (f : FileId) → WasReserved t s e i f → IsOwnNumber s f.ino
reserved_own c [] h s e i f k = absurd k
reserved_own c (x ∷ older) h s e i f (inr k) = reserved_own c older h.1 s e i f k
reserved_own c (x ∷ older) h s e i f (inl k) = over x.told h.0.packed k
  where
    over : (y : Told) → ToldPacked c y → ReservesIt s e i f older y → IsOwnNumber s f.ino
    over (Reserves z at inst file) packed k = subst (λ (g : FileId). IsOwnNumber s g.ino) k.file_is (subst (λ (y : ℕ). IsOwnNumber y file.ino) k.site_is packed.1)
    over y packed k = absurd k

-- ---- vectors ----

greatest_low : (g : Stamp → ℕ) → ((p : Stamp) → g p < 4294967295) → (ps : List Stamp) → greatest g ps < 4294967295
greatest_low g low [] = omega arith
greatest_low g low (p ∷ ps) = both (g p) (greatest g ps) (low p) (greatest_low g low ps)
  where
    both : (a b : ℕ) → a < 4294967295 → b < 4294967295 → max a b < 4294967295
    both a b p q = omega (arith, p, q)

module _ (c : Config) (t : List Line) (past : Past c t) (file : FileId) (parents : List Stamp) (v : List ℕ) (joins : JoinsParents c t file parents v) where
  part_low : (k : ℕ) → part v k < 4294967295
  part_low k = over (nat_lt k sites_max) refl
    where
      within : nat_lt k sites_max ≡ true → k < sites_max
      within q = grind (arith, nat_tests)

      outside : nat_lt k sites_max ≡ false → length v ≤ k
      outside q = (let e : length v ≡ sites_max = sixteen c t file parents v joins in let le : sites_max ≤ k = grind (arith, nat_tests) in omega (arith, e, le))

      nothing : (n : ℕ) → n ≡ 0 → n < 4294967295
      nothing n e = omega (arith, e)

      over : (b : Bool) → nat_lt k sites_max ≡ b → part v k < 4294967295
      over true q = subst (λ (n : ℕ). n < 4294967295) (sym (joins_greatest c t file parents v joins k (within q)))
          (greatest_low (λ p. counter (history c (entries t)) file p (1 + k)) (counter_low c t past.followed past.rest.each file (1 + k) (omega arith)) parents)
      over false q = nothing (part v k) (beyond v k (outside q))

  -- the vector with the counter of a site raised
  module _ (me : ℕ) (site : IsSite me) where
    raised_low : (k : ℕ) → part (raised v (me - 1)) k < 2 ^ 32
    raised_low k = over (k == me - 1) refl
      where
        same : (k == me - 1) ≡ true → k ≡ me - 1
        same q = grind (arith, nat_tests)

        apart : (k == me - 1) ≡ false → k ≡ me - 1 → ⊥
        apart q e = grind (arith, nat_tests)

        one_more : (n m : ℕ) → n ≡ m + 1 → m < 4294967295 → n < 2 ^ 32
        one_more n m e l = omega (arith, e, l)

        as_it_was : (n m : ℕ) → n ≡ m → m < 4294967295 → n < 2 ^ 32
        as_it_was n m e l = omega (arith, e, l)

        over : (b : Bool) → (k == me - 1) ≡ b → part (raised v (me - 1)) k < 2 ^ 32
        over true q = subst (λ (n : ℕ). part (raised v (me - 1)) n < 2 ^ 32) (sym (same q)) (one_more (part (raised v (me - 1)) (me - 1)) (part v (me - 1)) (raised_same v (me - 1)) (part_low (me - 1)))
        over false q = as_it_was (part (raised v (me - 1)) k) (part v k) (raised_other v (me - 1) k (apart q)) (part_low k)

    raised_some : 1 ≤ part (raised v (me - 1)) (me - 1)
    raised_some = (let e : part (raised v (me - 1)) (me - 1) ≡ part v (me - 1) + 1 = raised_same v (me - 1) in omega (arith, e))

    pub raised_stamp : IsStamp (record { site = me; n = part (raised v (me - 1)) (me - 1) })
    raised_stamp = inr (site.low, site.high, raised_some, raised_low (me - 1))

    pub raised_agrees : AgreesWith (record { site = me; n = part (raised v (me - 1)) (me - 1) }) (raised v (me - 1))
    raised_agrees = record {
      count = length_raised v (me - 1) inside ∙ sixteen c t file parents v joins;
      each = raised_low;
      own = λ low. refl;
      none = λ z. absurd (never me site.low z);
    }
      where
        inside : me - 1 < length v
        inside = (let e : length v ≡ sites_max = sixteen c t file parents v joins in let low : 1 ≤ me = site.low in let high : me ≤ sites_max = site.high in omega (arith, e, low, high))

        never : (z : ℕ) → 1 ≤ z → z ≡ 0 → ⊥
        never z low e = omega (arith, low, e)

-- ---- an instance that runs ----

module _ (c : Config) (t : List Line) (past : Past c t) (f : Frame) (frame : FrameFact c t f) (s : Store) (store : StoreHeld c f t s) (i : Instance) (fact : InstanceFact c t f i) where
  me_site : IsSite f.me
  me_site = inside_site c t past.rest.each f.me f.epoch frame.inside

  packed : HasPack c i.file.group f.me
  packed = begun_packed c t past.rest.each f.me f.epoch i.inst i.file fact.begun

  packs_some : 1 ≤ (packs_of c i.file.group).0
  packs_some = has_some (packs_of c i.file.group) f.me packed

  number_is : (m : Mode) → LiesAs c t f i m → IsInodeNumber i.file.ino
  number_is mode.Make l = own_inode f.me i.file.ino me_site (reserved_own c t past.rest.each f.me f.epoch i.inst i.file l.4)
  number_is mode.Read l = stands_inode c i.file l.stamp t past.rest.each l.stands
  number_is mode.Write l = stands_inode c i.file l.stamp t past.rest.each l.stands
  number_is mode.Resolve l = stands_inode c i.file l.stamp t past.rest.each l.stands
  number_is mode.Mend l = stands_inode c i.file l.stamp t past.rest.each l.stands

  set_is : (m : Mode) → LiesAs c t f i m → 1 ≤ i.set.0
  set_is mode.Make l = subst (λ (x : _). 1 ≤ x.0) (sym l.2) (made_some c t past (packs_of c i.file.group) packs_some (Some l.0))
  set_is mode.Read l = subst (λ (x : _). 1 ≤ x.0) (sym l.set_is) (set_some c t past i.file l.stamp l.stands)
  set_is mode.Write l = subst (λ (x : _). 1 ≤ x.0) (sym l.set_is) (set_some c t past i.file l.stamp l.stands)
  set_is mode.Resolve l = subst (λ (x : _). 1 ≤ x.0) (sym l.set_is) (set_some c t past i.file l.stamp l.stands)
  set_is mode.Mend l = subst (λ (x : _). 1 ≤ x.0) (sym l.set_is) (set_some c t past i.file l.stamp l.stands)

  narrow : (n : ℕ) → IsInodeNumber n → n < inode_span
  narrow n k = (let high : n ≤ inodes_max = k.1 in omega (arith, high))

  -- the content of the site's copy is that of what it holds
  copy_is : content_of (copy_of s i.file) ≡ stamped_content (history c (entries t)) i.file (held c (entries t) f.me i.file)
  copy_is = ap content_of (store.copies.are i.file (narrow i.file.ino (number_is i.mode fact.lies))) ∙ over (held c (entries t) f.me i.file)
    where
      over : (o : Option Stamp) → content_of (option_map (copy_for i.file) (option_map (version_of c (entries t) i.file) o)) ≡ stamped_content (history c (entries t)) i.file o
      over None = refl
      over (Some stamp) = refl

  works_over : (x : Open) → WorksAs c t f i x → FitsOver (content_of (copy_of s i.file)) i.work.content i.work.changed
  works_over x w = subst (λ (base : List ℕ). FitsOver base i.work.content i.work.changed) base_is (subst (λ (y : _). FitsOver (stamped_content (history c (entries t)) x.grant.file x.work.last) y.content y.changed) w.work_is it)
    where
      it : Works (history c (entries t)) x
      it = all_found (Works (history c (entries t))) (is_named i.inst) (tree_of c f.epoch (granted_group (entries t) f.epoch i.inst) (entries t)).instances x ((trace_works c t past.followed (rest_below c t past.rest)).1 f.epoch (granted_group (entries t) f.epoch i.inst)) w.open_at.found

      rests : StoreRests c t
      rests = store_rests c t past

      stands : StandsOnHeld c t f.epoch x
      stands = rests.stands f.epoch i.inst x w.open_at.found

      last_is : x.work.last ≡ held c (entries t) f.me i.file
      last_is = stands.last_is
          ∙ (ap (λ (z : ℕ). held_in c (entries t) f.epoch z x.grant.file) w.open_at.place
          ∙ (ap (λ (g : FileId). held_in c (entries t) f.epoch f.me g) w.file_is ∙ rests.inside f.epoch f.me i.file frame.inside))

      base_is : stamped_content (history c (entries t)) x.grant.file x.work.last ≡ content_of (copy_of s i.file)
      base_is = ap (λ (g : FileId). stamped_content (history c (entries t)) g x.work.last) w.file_is ∙ (ap (stamped_content (history c (entries t)) i.file) last_is ∙ sym copy_is)

  fresh_over : (base : List ℕ) → FitsOver base [] []
  fresh_over base = record { size = omega arith; below = tt; once = tt; kept = λ page inside lacks. absurd (none page inside) }
    where
      none : (page : ℕ) → page < pages_of 0 → ⊥
      none page inside = omega (arith, inside)

  runs_over : RunsAs c t f i → FitsOver (content_of (copy_of s i.file)) i.work.content i.work.changed
  runs_over (inl (x, w)) = works_over x w
  runs_over (inr w) = subst (λ (y : _). FitsOver (content_of (copy_of s i.file)) y.content y.changed) (sym w.fresh) (fresh_over (content_of (copy_of s i.file)))

  may_store : length i.work.changed ≤ pack_pages - total (copy_pages i.file.group) s.copies → FitsOver (content_of (copy_of s i.file)) i.work.content i.work.changed → MayStore c f s i
  may_store room fits = record {
    packed = packed;
    number = number_is i.mode fact.lies;
    version = record {
      some = set_is i.mode fact.lies;
      most = holds_file (length i.work.content) fits.size;
      named = raised_stamp c t past i.file i.parents i.vector fact.vector_is f.me me_site;
      agrees = raised_agrees c t past i.file i.parents i.vector fact.vector_is f.me me_site;
    };
    pages = are_pages (pages_of (length i.work.content)) i.work.changed fits.below fits.once;
    kept = fits.kept;
    room = room;
  }

  pub fits_running : StageFact c t f i stage.Running → FitsOver (content_of (copy_of s i.file)) i.work.content i.work.changed
  fits_running k = runs_over k.0

  -- the site's copy is of the file
  pub own_group : (y : FileCopy) → copy_of s i.file ≡ Some y → y.file.group ≡ i.file.group
  own_group y e = over (held_version c (entries t) f.me i.file) (sym (store.copies.are i.file (narrow i.file.ino (number_is i.mode fact.lies))) ∙ e)
    where
      over : (o : Option HeldVersion) → option_map (copy_for i.file) o ≡ Some y → y.file.group ≡ i.file.group
      over None e = absurd (none e)
        where
          none : ◌≡◌ {A = Option FileCopy} None (Some y) → ⊥
          none e = cc
      over (Some v) e = sym (ap (λ (x : FileCopy). x.file.group) (some_same (copy_for i.file v) y e))

  pub runs_fit : (g : Stage) → i.stage ≡ g → changed_pages i.file.group i ≤ total (changed_pages i.file.group) s.instances → RoomFits s → StageFact c t f i g → RunsStorable c f s i g
  runs_fit stage.Running q le room k = may_store (left (length i.work.changed) (total (copy_pages i.file.group) s.copies) (total (changed_pages i.file.group) s.instances) (changed_pages i.file.group i) changed_is le (room i.file.group)) (runs_over k.0)
    where
      own : (n : ℕ) → (n == n) ≡ true
      own n = grind (arith, nat_tests)

      changed_is : changed_pages i.file.group i ≡ length i.work.changed
      changed_is = ap (λ (b : Bool). cond b (length i.work.changed) 0) (ap (λ (x : Stage). is_open x && (i.file.group == i.file.group)) q ∙ own i.file.group)

      left : (lc tc ti mi : ℕ) → mi ≡ lc → mi ≤ ti → tc + ti ≤ pack_pages → lc ≤ pack_pages - tc
      left lc tc ti mi e a b = omega (arith, e, a, b)
  runs_fit (stage.Closing made a) q le room k = tt
  runs_fit (stage.Closed a) q le room k = tt

pub store_fits : (c : Config) (t : List Line) → Past c t → (f : Frame) → FrameFact c t f → (s : Store) → StoreHeld c f t s → RoomFits s → AreStorable c f s
store_fits c t past f frame s store room = along s.instances store.instances.instances (λ g. same (total (changed_pages g) s.instances))
  where
    same : (n : ℕ) → n ≤ n
    same n = omega arith

    first : (a b n : ℕ) → a + b ≤ n → a ≤ n
    first a b n l = omega (arith, l)

    rest : (a b n : ℕ) → a + b ≤ n → b ≤ n
    rest a b n l = omega (arith, l)

    along : (is : List Instance) → Every (InstanceFact c t f) is → ((g : ℕ) → total (changed_pages g) is ≤ total (changed_pages g) s.instances) → Every (λ (i : Instance). RunsStorable c f s i i.stage) is
    along [] k le = tt
    along (i ∷ is) k le = (
      runs_fit c t past f frame s store i k.0 i.stage refl (first (changed_pages i.file.group i) (total (changed_pages i.file.group) is) (total (changed_pages i.file.group) s.instances) (le i.file.group)) room k.0.stage,
      along is k.1 (λ g. rest (changed_pages g i) (total (changed_pages g) is) (total (changed_pages g) s.instances) (le g)),
    )

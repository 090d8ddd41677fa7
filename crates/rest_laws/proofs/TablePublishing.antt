-- The row of a file once what a released instance has made is published: its version is known, and its storage site is noted to hold it.
use Rattle.std.proofs.Common.{◌≡◌, ℕ, ◌==◌, ◌<◌, Bool, true, false, not, cond, List, [], ◌∷◌, map, Option, Some, None, refl, sym, ◌∙◌, ap, subst, inl, inr, arith}
use Rattle.role_steps.proofs.of_plain_facts.Numbers.{equal}
use Rattle.role_steps.proofs.of_plain_facts.Options.{none_some, some_same}
use Rattle.locus_ids.specs.declared.config.Config.{Config}
use Rattle.locus_ids.specs.declared.ids.CallId.{CallId}
use Rattle.locus_ids.specs.declared.ids.FileId.{FileId}
use Rattle.locus_ids.specs.declared.ids.Kind.TheVariants.{Dir}
use Rattle.locus_ids.specs.declared.ids.Mode.{Mode}
use Rattle.locus_ids.specs.declared.ids.Mode.TheVariants as mode
use Rattle.locus_ids.specs.declared.ids.Stamp.{Stamp}
use Rattle.commit_graph.specs.Versions.{with_stamp}
use Rattle.trace_book.specs.declared.record.Record.TheVariants as says
use Rattle.wire_messages.specs.declared.body.MadeVersion.{MadeVersion}
use Rattle.role_steps.specs.Own.{Every}
use Rattle.role_steps.specs.Reports.{published_row}
use Rattle.role_steps.specs.Versions.{file_row, holding_site, is_below, is_below_some, known_or, not_below, noted, row_ino, unknown_file, version_key, with_kept, with_version}
use Rattle.role_steps.specs.Tables.{with_row}
use Rattle.role_steps.specs.Views.{Frame, Told, Shown}
use Rattle.role_steps.specs.declared.synchronizing.FileRow.{FileRow}
use Rattle.role_steps.specs.declared.synchronizing.OpenRow.{OpenRow}
use Rattle.role_steps.specs.declared.synchronizing.SyncTable.{SyncTable}
use Rattle.role_steps.specs.declared.synchronizing.VersionRow.{VersionRow}
use Rattle.the_run.specs.Kept.{Among}
use Rattle.the_run.specs.Worlds.{Line}
use Rattle.the_run.proofs.InsideSync.{every_row}
use Rattle.tree_model.specs.Files.{first_call, kind_made, kind_of_file, set_of_file, words_named}
use Rattle.tree_model.specs.Histories.{history}
use Rattle.tree_model.specs.Opening.{is_given_by, sites_made}
use Rattle.tree_model.specs.Packs.{packs_of}
use Rattle.tree_model.specs.Tree.{candidates, tree_of}
use Rattle.lawful_trace.specs.TreeRows.{granted_group}
use Rattle.tree_laws.specs.Frames.{AllStay, VersionsStay}
use Rattle.tree_laws.specs.Instances.{HasAtLeast, IsVersion, Stands, held_in}
use Rattle.tree_laws.specs.Packets.{EndsNow, MadeFact, file_in}
use Rattle.tree_laws.specs.Printed.{entries}
use Rattle.tree_laws.specs.Tables.{AsItsFile, FileFact, HasHolder, IsGrantedNow, IsNoted, IsOrderly, StartedFiles, VersionFact, known_stamps, row_stamp}
use Rattle.tree_laws.proofs.Boots.{every_both, every_filter}
use Rattle.tree_laws.proofs.CarriedVersions.{version_stays}
use Rattle.tree_laws.proofs.Versions.{versions_stay}
use Rattle.store_laws.specs.Holdings.Held.{StandsOnHeld}
use Rattle.store_laws.proofs.Holdings.Ancestors.{ancestor_own}
use Rattle.store_laws.proofs.Holdings.Holding.{stands_on_held}
use Rattle.store_laws.proofs.of_tree_laws.Orders.Lists.{all_found}
use Rattle.store_laws.proofs.Holdings.OneVersionFirsts.{MakesFirst, makes_first}
use Rattle.store_laws.proofs.Holdings.OneVersionHomes.{no_root}
use Rattle.store_laws.proofs.Places.{open_is}
use Rattle.store_laws.proofs.Tabled.{row_among}
use Rattle.store_laws.proofs.of_tree_laws.Syncs.Files.{file_row_stays}
use Rattle.store_laws.proofs.of_tree_laws.Syncs.Orderly.{version_orderly, version_there}
use Rattle.store_laws.proofs.of_tree_laws.Syncs.Rows.{every_among, row_every, row_key_is}
use Rattle.store_laws.proofs.of_tree_laws.Syncs.Versions.{row_stands}
use Rattle.tree_model.specs.State.{is_named}
use Rattle.store_laws.specs.OneTree.Rest.{Comes, Past, RestTold, more}
use Rattle.store_laws.specs.OneTree.Roles.{Ready, TableHere}
use Rattle.store_laws.proofs.OneTree.Composing.{past_more}
use Rattle.store_laws.proofs.OneTree.Staying.{stays}
use Rattle.store_laws.proofs.OneTree.ToldVectorOnly.{only_version, stands_low}
use Rattle.rest_laws.proofs.TableCalled.{open_make_called}
use Rattle.rest_laws.proofs.TableKnown.{row_stamps}
use Rattle.rest_laws.proofs.TableNoting.{NotedRow, RowSo, noted_now, noted_row, row_so}
use Rattle.rest_laws.proofs.TableReleasing.{held_now, its_call, its_file, may}
use Rattle.rest_laws.proofs.TableShutting.{shut_file}

-- ---- lists ----

every_kept : (P : VersionRow → Type 0) (v : VersionRow) (others : List VersionRow) → P v → Every P others → Every P (with_kept v others)
every_kept P v others p h = over (is_below_some v others)
  where
    over : (b : Bool) → Every P (elim b as (λ (z : Bool). List VersionRow) [ true ↦ others | false ↦ with_row version_key v (not_below v others) ])
    over true = h
    over false = every_row P version_key v (not_below v others) p (every_filter P (λ (w : VersionRow). not (is_below w.vector v.vector)) others h)

pub every_own : {A : Type 0} (Q : A → Type 0) (xs : List A) → ((x : A) → Among x xs → Q x) → Every Q xs
every_own Q [] h = tt
every_own Q (x ∷ xs) h = (h x (inl refl), every_own Q xs (λ y a. h y (inr a)))

-- ---- a table whose instance is released ----

module _ (c : Config) (n : ℕ) (trace : List Line) (f : Frame) (t : SyncTable) (ready : Ready c trace f) (here : TableHere c trace f t) (files : StartedFiles c trace f t) (r : OpenRow) (d : CallId) (group_is : r.file.group ≡ t.group) (granted : IsGrantedNow trace f.epoch r d) (lies : AsItsFile c trace r d r.mode)
    (ss : ℕ) (v : MadeVersion) (ends : EndsNow c trace f.epoch ss r.inst (Some v.stamp)) (made : MadeFact c trace f.epoch ss r.inst v) (rest : RestTold c trace (Shown (says.Release f.epoch r.inst r.file (Some v.stamp)))) where
  abbrev x : Told
  x = Shown (says.Release f.epoch r.inst r.file (Some v.stamp))

  abbrev new : List Line
  new = more n x trace

  abbrev F : FileId
  F = file_in t.group r.file.ino

  file_is : r.file ≡ F
  file_is = ap (λ (g : ℕ). file_in g r.file.ino) group_is

  pub comes : Comes c trace x
  comes = record { past = ready.past; may = may c n trace f t ready here r d group_is granted ss (Some v.stamp) ends; rest = rest }

  pub stay : AllStay c trace new x
  stay = (stays c).all n x trace comes

  pub vs : VersionsStay c trace new
  vs = versions_stay c n x trace ready.past.followed comes.may stay.fresh stay.order

  pub past_new : Past c new
  past_new = past_more c n x trace ready.past comes.may rest

  -- ---- the version ----

  made_file : made.file ≡ F
  made_file = shut_file c trace ready.past.followed ss ss f.epoch r.inst d r.request r.mode r.file made.file r.stamp r.ss ends.shut granted.was_granted made.begun ∙ file_is

  abbrev mv : VersionRow
  mv = record { stamp = v.stamp; vector = v.vector; size = v.size }

  stamp_is : v.stamp ≡ made.version.stamp
  stamp_is = ap (λ (y : MadeVersion). y.stamp) made.same

  is_version_was : IsVersion c trace F made.version
  is_version_was = subst (λ (g : FileId). IsVersion c trace g made.version) made_file made.is_version

  pub version_now : VersionFact c new F mv
  version_now = record { version = made.version; is_version = version_stays c trace new vs F made.version is_version_was; same = ap (λ (y : MadeVersion). let z : VersionRow = record { stamp = y.stamp; vector = y.vector; size = y.size } in z) made.same }

  stood : Stands c trace F v.stamp
  stood = subst (λ (s : Stamp). Stands c trace F s) (sym stamp_is) is_version_was.stands

  stands_now : Stands c new F v.stamp
  stands_now = vs.stands F v.stamp stood

  -- the storage site has it
  has_it : held_in c (entries trace) f.epoch ss F ≡ Some v.stamp
  has_it = subst (λ (g : FileId). held_in c (entries trace) f.epoch ss g ≡ Some v.stamp) (its_file c n trace f t ready here r d group_is granted ss (Some v.stamp) ends ∙ file_is)
      (subst (λ (s : ℕ). held_in c (entries trace) f.epoch s ends.at.grant.file ≡ Some v.stamp) ends.closes.open_at.place (sym on.last_is ∙ on.made v.stamp ends.committed))
    where
      on : StandsOnHeld c (entries trace) f.epoch ends.at
      on = stands_on_held c trace ready.past.followed f.epoch r.inst ends.at ends.closes.open_at.found

  pub has_now : held_in c (entries new) f.epoch ss F ≡ Some v.stamp
  has_now = held_now c n trace f t ready here r d group_is granted ss (Some v.stamp) ends ss r.file.ino ∙ has_it

  -- ---- what the file is ----

  -- a make's call gave its sites and its kind
  module _ (make : r.mode ≡ mode.Make) where
    at_make : ends.at.grant.mode ≡ mode.Make
    at_make = (open_is c trace ready.past.followed f.epoch d r.request r.inst r.mode r.file r.stamp r.ss ends.at granted.was_granted ends.closes.open_at.found).0 ∙ make

    first_is : first_call c (entries trace) F ≡ Some d
    first_is = subst (λ (g : FileId). first_call c (entries trace) g ≡ Some d) (its_file c n trace f t ready here r d group_is granted ss (Some v.stamp) ends ∙ file_is)
        (open_make_called c trace ready.past.rest.packs ready.past.followed f.epoch r.inst ends.at ends.closes.open_at.found at_make v.stamp ends.committed ∙ ap Some (its_call c n trace f t ready here r d group_is granted ss (Some v.stamp) ends))

    given : is_given_by ends.at.grant.ss ends.at.grant.file.ino ≡ true
    given = (all_found (MakesFirst c (entries trace) f.epoch) (is_named r.inst) (tree_of c f.epoch (granted_group (entries trace) f.epoch r.inst) (entries trace)).instances ends.at (makes_first c trace ready.past.rest.packs ready.past.followed f.epoch (granted_group (entries trace) f.epoch r.inst)) ends.closes.open_at.found at_make).0

    no_root_here : (b : Bool) → (r.file.ino == 1) ≡ b → (r.file.ino == 1) ≡ false
    no_root_here false k = k
    no_root_here true k = absurd (no_root ends.at.grant.ss ends.at.grant.file.ino given (ap (λ (g : FileId). g.ino) (its_file c n trace f t ready here r d group_is granted ss (Some v.stamp) ends) ∙ one r.file.ino k))
      where
        one : (m : ℕ) → (m == 1) ≡ true → m ≡ 1
        one m h = equal m 1 h

    make_kind : kind_of_file c (entries trace) F ≡ kind_made (words_named (entries trace) (Some d))
    make_kind = ap (λ (b : Bool). cond b Dir (kind_made (words_named (entries trace) (first_call c (entries trace) F)))) (no_root_here (r.file.ino == 1) refl) ∙ ap (λ (o : Option CallId). kind_made (words_named (entries trace) o)) first_is

    make_set : set_of_file c (entries trace) F ≡ sites_made (packs_of c t.group) (words_named (entries trace) (Some d))
    make_set = ap (λ (b : Bool). cond b (packs_of c t.group) (sites_made (packs_of c t.group) (words_named (entries trace) (first_call c (entries trace) F)))) (no_root_here (r.file.ino == 1) refl) ∙ ap (λ (o : Option CallId). sites_made (packs_of c t.group) (words_named (entries trace) o)) first_is

  record AsFile : Type 0 where
    kind_is : r.kind ≡ kind_of_file c (entries trace) F
    set_is : r.set ≡ set_of_file c (entries trace) F

  plain_file : (s : Stamp) × Stands c trace r.file s × (r.set ≡ set_of_file c (entries trace) r.file) × (r.kind ≡ kind_of_file c (entries trace) r.file) → AsFile
  plain_file k = record { kind_is = k.3 ∙ ap (kind_of_file c (entries trace)) file_is; set_is = k.2 ∙ ap (set_of_file c (entries trace)) file_is }

  as_file : (m : Mode) → r.mode ≡ m → AsItsFile c trace r d m → AsFile
  as_file mode.Make e k = record { kind_is = k.1 ∙ sym (make_kind e); set_is = k.0 ∙ (ap (λ (g : ℕ). sites_made (packs_of c g) (words_named (entries trace) (Some d))) group_is ∙ sym (make_set e)) }
  as_file mode.Read e k = plain_file k
  as_file mode.Write e k = plain_file k
  as_file mode.Resolve e k = plain_file k
  as_file mode.Mend e k = plain_file k

  -- ---- the row before ----

  -- what is known of the file, or nothing
  pub record BaseRow (q : FileRow) : Type 0 where
    pub ino_is : q.ino ≡ r.file.ino
    pub kind_is : q.kind ≡ kind_of_file c (entries new) (file_in t.group q.ino)
    pub set_is : q.set ≡ set_of_file c (entries new) (file_in t.group q.ino)
    pub so : RowSo c new f.epoch t.group q
    pub held : Every (HasHolder q) q.kept
    pub known : map row_stamp q.versions ≡ candidates c (entries trace) f.epoch F

  abbrev base : Option FileRow → FileRow
  base o = known_or (unknown_file r.file.ino r.kind r.set) o

  base_row : (o : Option FileRow) → file_row t r.file.ino ≡ o → BaseRow (base o)
  base_row None e = record {
    ino_is = refl;
    kind_is = (as_file r.mode refl lies).kind_is ∙ sym (vs.kinds F v.stamp stood);
    set_is = (as_file r.mode refl lies).set_is ∙ sym (vs.sets F v.stamp stood);
    so = record { versions = tt; keeps = tt; holders = tt; orderly = record { ascends = tt; keeps = refl; names = tt; sites = tt } };
    held = tt;
    known = ap known_stamps (sym e) ∙ files.known r.file.ino;
  }
  base_row (Some q) e = (let k : FileFact c new f.epoch t.group q = file_row_stays c trace new vs f.epoch t.group q (row_every (FileFact c trace f.epoch t.group) row_ino r.file.ino t.files q here.fact.rows e) in record {
    ino_is = row_key_is row_ino r.file.ino t.files q e;
    kind_is = k.kind_is;
    set_is = k.set_is;
    so = row_so c new f.epoch t.group q k;
    held = k.held;
    known = ap known_stamps (sym e) ∙ files.known r.file.ino;
  })

  -- ---- the row after ----

  module _ (q : FileRow) (b : BaseRow q) where
    abbrev G : FileId
    G = file_in t.group q.ino

    same_file_as : F ≡ G
    same_file_as = ap (file_in t.group) (sym b.ino_is)

    abbrev grown : FileRow
    grown = with_version mv q

    mv_fact : VersionFact c new G mv
    mv_fact = subst (λ (g : FileId). VersionFact c new g mv) same_file_as version_now

    versions_grown : Every (VersionFact c new G) grown.versions
    versions_grown = every_row (VersionFact c new G) version_key mv q.versions mv_fact b.so.versions

    orderly_grown : IsOrderly grown
    orderly_grown = version_orderly mv q b.so.orderly (only_version c new G past_new mv q.versions mv_fact b.so.versions)

    so_grown : RowSo c new f.epoch t.group grown
    so_grown = record { versions = versions_grown; keeps = subst (Every (VersionFact c new G)) (sym orderly_grown.keeps) (every_filter (VersionFact c new G) (λ (w : VersionRow). not (is_below_some w grown.versions)) grown.versions versions_grown); holders = b.so.holders; orderly = orderly_grown }

    held_there : held_in c (entries new) f.epoch ss (file_in t.group q.ino) ≡ Some v.stamp
    held_there = subst (λ (g : FileId). held_in c (entries new) f.epoch ss g ≡ Some v.stamp) same_file_as has_now

    abbrev has : HasAtLeast c new f.epoch ss (file_in t.group q.ino) v.stamp
    has = record { now = v.stamp; held = held_there; above = ancestor_own (history c (entries new)) G v.stamp }

    pub after : NotedRow c new f.epoch t.group grown (noted ss v.stamp grown)
    after = noted_row c new past_new f.epoch t.group grown so_grown ss v.stamp has

    pub site_noted : IsNoted (noted ss v.stamp grown) ss v.stamp
    site_noted = noted_now c new past_new f.epoch t.group grown so_grown ss v.stamp has refl mv (version_there mv q)

    holder_of : HasHolder (noted ss v.stamp grown) mv
    holder_of = (site_noted.0, row_among holding_site ss (noted ss v.stamp grown).holders site_noted.0 site_noted.1, site_noted.2)

    held_after : Every (HasHolder (noted ss v.stamp grown)) (noted ss v.stamp grown).kept
    held_after = subst (Every (HasHolder (noted ss v.stamp grown))) (sym after.kept_are)
        (every_own (HasHolder (noted ss v.stamp grown)) grown.kept (λ u a. every_among (λ (w : VersionRow). Among w grown.kept → HasHolder (noted ss v.stamp grown) w) grown.kept u each a a))
      where
        each : Every (λ (w : VersionRow). Among w grown.kept → HasHolder (noted ss v.stamp grown) w) grown.kept
        each = every_kept (λ (w : VersionRow). Among w grown.kept → HasHolder (noted ss v.stamp grown) w) mv q.kept (λ a. holder_of) (every_both (HasHolder q) (λ (w : VersionRow). Among w grown.kept → HasHolder (noted ss v.stamp grown) w) q.kept (λ w k a. after.holds w a k) b.held)

    pub fact_after : FileFact c new f.epoch t.group (noted ss v.stamp grown)
    fact_after = record {
      some = v.stamp;
      stands = subst (λ (g : FileId). Stands c new g v.stamp) (same_file_as ∙ ap (file_in t.group) (sym after.ino_is)) stands_now;
      kind_is = after.kind_is ∙ (b.kind_is ∙ ap (λ (i : ℕ). kind_of_file c (entries new) (file_in t.group i)) (sym after.ino_is));
      set_is = after.set_is ∙ (b.set_is ∙ ap (λ (i : ℕ). set_of_file c (entries new) (file_in t.group i)) (sym after.ino_is));
      versions = after.so.versions;
      keeps = after.so.keeps;
      holders = after.so.holders;
      held = held_after;
      orderly = after.so.orderly;
    }

    low : (s : Stamp) → s.n < 4294967295 → s.n < 4294967296
    low s h = omega (arith, h)

    known_after : map row_stamp (noted ss v.stamp grown).versions ≡ with_stamp v.stamp (candidates c (entries trace) f.epoch F)
    known_after = ap (λ (vs : List VersionRow). map row_stamp vs) after.versions_are
        ∙ (row_stamps mv q.versions (low v.stamp (stands_low c G v.stamp new past_new.rest.each (row_stands c new G mv mv_fact)))
        (every_both (VersionFact c new G) (λ (w : VersionRow). w.stamp.n < 4294967296) q.versions (λ w k. low w.stamp (stands_low c G w.stamp new past_new.rest.each (row_stands c new G w k))) b.so.versions)
        ∙ ap (with_stamp v.stamp) b.known)

  -- ---- the row that is published ----

  pub record PublishedRow (o : Option FileRow) (q : FileRow) : Type 0 where
    pub ino_is : q.ino ≡ r.file.ino
    pub fact : FileFact c new f.epoch t.group q
    pub known : map row_stamp q.versions ≡ with_stamp v.stamp (candidates c (entries trace) f.epoch F)
    pub site_has : IsNoted q ss v.stamp
    pub others : (y : FileRow) → o ≡ Some y → (site : ℕ) (s : Stamp) → held_in c (entries new) f.epoch site F ≡ Some s → IsNoted y site s → IsNoted q site s

  pub published_so : (o : Option FileRow) → file_row t r.file.ino ≡ o → PublishedRow o (published_row ss r v o)
  published_so None e = record {
    ino_is = (after (base None) (base_row None e)).ino_is;
    fact = fact_after (base None) (base_row None e);
    known = known_after (base None) (base_row None e);
    site_has = site_noted (base None) (base_row None e);
    others = λ y k. absurd (none_some y k);
  }
  published_so (Some z) e = record {
    ino_is = (after z (base_row (Some z) e)).ino_is ∙ (base_row (Some z) e).ino_is;
    fact = fact_after z (base_row (Some z) e);
    known = known_after z (base_row (Some z) e);
    site_has = site_noted z (base_row (Some z) e);
    others = λ y k site s held noted_was. (after z (base_row (Some z) e)).notes site s (subst (λ (g : FileId). held_in c (entries new) f.epoch site g ≡ Some s) (same_file_as z (base_row (Some z) e)) held) (subst (λ (w : FileRow). IsNoted w site s) (sym (some_same z y k)) noted_was);
  }

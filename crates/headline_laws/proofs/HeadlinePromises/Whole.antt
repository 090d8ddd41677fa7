-- Each file comes back wholly old or wholly new: what a site has, and what is served or opened, is one commit.
use Rattle.std.proofs.Common.{◌≡◌, ℕ, ◌≤◌, ◌==◌, ◌&&◌, ◌||◌, Bool, true, false, cond, List, [], ◌∷◌, length, filter, Option, Some, None, refl, sym, ap, subst, ◌∙◌, arith}
use Rattle.std.specs.Prelude.{reverse}
use Rattle.std.specs.List.{list_all}
use Rattle.std.specs.Option.{option_map}
use Rattle.locus_ids.specs.declared.config.Config.{Config}
use Rattle.locus_ids.specs.declared.ids.FileId.{FileId}
use Rattle.locus_ids.specs.declared.ids.Stamp.{Stamp}
use Rattle.commit_graph.specs.declared.history.Version.{Version}
use Rattle.commit_graph.specs.Versions.{is_in, is_version as is_of, same_file}
use Rattle.trace_book.specs.declared.record.Record.{Record}
use Rattle.trace_book.specs.declared.record.Record.TheVariants as rec
use Rattle.tree_model.specs.Folds.{Trace}
use Rattle.tree_model.specs.Histories.{format_stamp, history, history_after, held as held_by, held_after}
use Rattle.tree_model.specs.Packs.{has_pack}
use Rattle.lawful_trace.specs.Lawful.{MayCome}
use Rattle.tree_laws.specs.Following.{RowsAreLawful}
use Rattle.tree_laws.proofs.Orders.Knowing.{versions_stand}
use Rattle.tree_laws.proofs.Orders.Standing.{newest, roots_stand}
use Rattle.promises.specs.Past.{Copy, Past, Site, no_site, site_at, stamp_in}
use Rattle.promises.specs.Headline.{always, has_whole_files, is_version}
use Rattle.the_run.specs.Kept.{Among}
use Rattle.past_laws.specs.Agreement.{Agrees, past}
use Rattle.past_laws.specs.Along.{EachComesSo, IsNamed}
use Rattle.past_laws.proofs.Agreeing.{all_agrees}
use Rattle.past_laws.proofs.Names.{both_parts, file_eq, file_own, none_some, number_eq, number_own, some_same}
use Rattle.past_laws.proofs.Changing.{first_found, found_any}
use Rattle.past_laws.proofs.Finding.{filter_mapped}
use Rattle.past_laws.proofs.SitesSay.{has_number}
use Rattle.past_laws.proofs.TreesBegin.{one_number}
use Rattle.past_laws.proofs.TreesLists.{length_map}
use Rattle.headline_laws.proofs.HeadlinePromises.Lists.{all_among, among_found}
use Rattle.headline_laws.proofs.HeadlinePromises.Moments.{OfEach, always_of}

pub rows_of : (c : Config) (trace : Trace) → EachComesSo c trace → RowsAreLawful c trace
rows_of c [] k = tt
rows_of c (r ∷ before) k = (k.0.row, rows_of c before k.1)

-- What a site has stands in the history.

in_more : (h : List Version) (r : Record) (f : FileId) (s : Stamp) → is_in h f s ≡ true → is_in (history_after r h) f s ≡ true
in_more h (rec.Commit g site stamp parents content) f s x = later (is_of f s (record { file = g; site = site; stamp = stamp; parents = parents; content = content })) (is_in h f s) x
  where
    later : (a b : Bool) → b ≡ true → (a || b) ≡ true
    later true b k = refl
    later false b k = k
in_more h _ f s x = x

chosen : {A : Type 0} (b : Bool) (new s : Stamp) (old : Option Stamp) → cond b (Some new) old ≡ Some s → (b ≡ true → new ≡ s → A) → (old ≡ Some s → A) → A
chosen true new s old e f g = f refl (some_same new s e)
chosen false new s old e f g = g e

pub held_stands : (c : Config) (trace : Trace) → RowsAreLawful c trace → (site : ℕ) (f : FileId) (s : Stamp) → held_by c trace site f ≡ Some s → is_in (history c trace) f s ≡ true
held_stands c [] rows site f s h = chosen ((f.ino == 1) && has_pack c f.group site) format_stamp s None h
    (λ e k. (let parts = both_parts (f.ino == 1) (has_pack c f.group site) e in
    subst (λ t. is_in (history c []) f t ≡ true) k (subst (λ n. is_in (history c []) (record { group = f.group; ino = n }) format_stamp ≡ true) (sym (number_eq f.ino 1 parts.0)) (roots_stand c [] f.group site parts.1))))
    (λ k. none_some s k)
held_stands c (r ∷ before) rows site f s h = over (held_stands c before rows.1 site f s) r.what rows.0 h
  where
    over : (held_by c before site f ≡ Some s → is_in (history c before) f s ≡ true) → (w : Record) → MayCome c before w → held_after w site f (held_by c before site f) ≡ Some s → is_in (history_after w (history c before)) f s ≡ true
    over old (rec.Commit g z stamp parents content) may e = chosen (same_file g f && (z == site)) stamp s (held_by c before site f) e
        (λ b k. newest (record { file = g; site = z; stamp = stamp; parents = parents; content = content }) (history c before) f s (file_eq g f (both_parts (same_file g f) (z == site) b).0) k)
        (λ k. in_more (history c before) (rec.Commit g z stamp parents content) f s (old k))
    over old (rec.Adopt g z stamp) may e = chosen (same_file g f && (z == site)) stamp s (held_by c before site f) e
        (λ b k. subst (λ t. is_in (history c before) f t ≡ true) k (subst (λ i. is_in (history c before) i stamp ≡ true) (file_eq g f (both_parts (same_file g f) (z == site) b).0) ((versions_stand c before rows.1).known may.epoch g stamp may.known)))
        old
    over old w may e = old e

-- Each site once, with each file once.

site_once : (c : Config) (trace : Trace) (p : Past) → Agrees c trace p → (z : ℕ) → length (filter (has_number z) p.sites) ≤ 1
site_once c trace p a z = omega (arith, length_map (λ (s : Site). s.number) (filter (has_number z) p.sites), ap length (sym (filter_mapped (λ (s : Site). s.number) (λ n. n == z) p.sites) ∙ ap (filter (λ n. n == z)) a.sites.numbers), one_number z 1 c.sites)

pub site_itself : (c : Config) (trace : Trace) (p : Past) → Agrees c trace p → (s : Site) → Among s p.sites → site_at p s.number ≡ s
site_itself c trace p a s k = first_found no_site (has_number s.number) p.sites s (among_found (has_number s.number) p.sites s k (number_own s.number) (site_once c trace p a s.number))

whole_at : (c : Config) (trace : Trace) (p : Past) → RowsAreLawful c trace → Agrees c trace p → has_whole_files p ≡ true
whole_at c trace p rows a = all_among (λ (s : Site). list_all (is_version p) s.held) p.sites (λ s k. all_among (is_version p) s.held (λ v l. one s k v l))
  where
    one : (s : Site) → Among s p.sites → (v : Copy) → Among v s.held → is_version p v ≡ true
    one s k v l =
        let itself = site_itself c trace p a s k in
        let once = subst (λ (x : Site). length (filter (λ (w : Copy). same_file w.file v.file) x.held) ≤ 1) itself (a.trees.one_copy s.number v.file) in
        let has = ap (option_map (λ (w : Copy). w.stamp)) (among_found (λ (w : Copy). same_file w.file v.file) s.held v l (file_own v.file) once) in
        let there = found_any (has_number s.number) (has_number s.number) p.sites s (among_found (has_number s.number) p.sites s k (number_own s.number) (site_once c trace p a s.number)) (number_own s.number) in
        ap (λ h. is_in h v.file v.stamp) a.epochs.history
        ∙ held_stands c trace rows s.number v.file v.stamp (sym (a.sites.held s.number there v.file) ∙ (ap (λ (x : Site). stamp_in x.held v.file) itself ∙ has))

whole_of : (c : Config) → IsNamed c → (trace : Trace) → EachComesSo c trace → OfEach (λ r before. has_whole_files (past c (r ∷ before)) ≡ true) trace
whole_of c named [] k = tt
whole_of c named (r ∷ before) k = (whole_at c (r ∷ before) (past c (r ∷ before)) (rows_of c (r ∷ before) k) (all_agrees c named (r ∷ before) k), whole_of c named before k.1)

pub whole : (c : Config) → IsNamed c → (trace : Trace) → EachComesSo c trace → always has_whole_files c (reverse trace) ≡ true
whole c named trace k = always_of has_whole_files c trace (whole_of c named trace k)

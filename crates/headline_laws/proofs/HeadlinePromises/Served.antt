-- What is served or opened is one commit, whole.
use Rattle.std.proofs.Common.{◌≡◌, ℕ, ◌||◌, Bool, true, false, cond, List, [], ◌∷◌, filter, Option, Some, None, refl, ap, subst, ◌∙◌}
use Rattle.std.specs.Prelude.{reverse}
use Rattle.locus_ids.specs.declared.config.Config.{Config}
use Rattle.locus_ids.specs.declared.ids.CallId.{CallId}
use Rattle.locus_ids.specs.declared.ids.EpochId.{EpochId}
use Rattle.locus_ids.specs.declared.ids.FileId.{FileId}
use Rattle.locus_ids.specs.declared.ids.Mode.{Mode}
use Rattle.locus_ids.specs.declared.ids.Mode.TheVariants as mode
use Rattle.locus_ids.specs.declared.ids.Stamp.{Stamp}
use Rattle.commit_graph.specs.Versions.{is_in, same_stamp}
use Rattle.trace_book.specs.declared.operation.What.{What}
use Rattle.trace_book.specs.declared.operation.What.TheVariants as what
use Rattle.trace_book.specs.declared.operation.Served.TheVariants as served
use Rattle.trace_book.specs.declared.record.Record.{Record}
use Rattle.trace_book.specs.declared.record.Record.TheVariants as rec
use Rattle.tree_model.specs.Folds.{Trace}
use Rattle.tree_model.specs.Given.{only_kept, served_by}
use Rattle.tree_model.specs.Histories.{history}
use Rattle.tree_model.specs.Opening.{is_new_file, is_only, is_placed, is_site, resolving_site}
use Rattle.tree_model.specs.Packs.{sync_site}
use Rattle.tree_model.specs.Same.{is_served, same_version}
use Rattle.tree_model.specs.State.{has_stamp, held_at, kept_of}
use Rattle.tree_model.specs.Tree.{candidates, kept_in, tree_of}
use Rattle.lawful_trace.specs.Lawful.{MayCome}
use Rattle.tree_laws.specs.Following.{RowsAreLawful}
use Rattle.tree_laws.proofs.Orders.Knowing.{versions_stand}
use Rattle.promises.specs.Past.{Past, nothing_yet}
use Rattle.promises.specs.Headline.{serves_whole_files}
use Rattle.promises.specs.Traces.{each}
use Rattle.past_laws.specs.Agreement.{Agrees, past}
use Rattle.past_laws.specs.Along.{EachComesSo, IsNamed}
use Rattle.past_laws.proofs.Agreeing.{all_agrees}
use Rattle.past_laws.proofs.MadeGranted.{refusal_none}
use Rattle.past_laws.proofs.Names.{both, both_parts, false_true, stamp_eq}
use Rattle.headline_laws.proofs.HeadlinePromises.Moments.{OfEach, each_of}
use Rattle.headline_laws.proofs.HeadlinePromises.Whole.{rows_of}

-- A kept version is one of those that are known.

kept_known : (ok : Stamp → Bool) (ss : List Stamp) (s : Stamp) → has_stamp (filter ok ss) s ≡ true → has_stamp ss s ≡ true
kept_known ok [] s h = h
kept_known ok (t ∷ ss) s h = over (ok t) (kept_known ok ss s) h
  where
    or_more : (a b c : Bool) → (b ≡ true → c ≡ true) → (a || b) ≡ true → (a || c) ≡ true
    or_more true b c f k = refl
    or_more false b c f k = f k

    or_last : (a b : Bool) → b ≡ true → (a || b) ≡ true
    or_last true b k = refl
    or_last false b k = k

    over : (b : Bool) → (has_stamp (filter ok ss) s ≡ true → has_stamp ss s ≡ true) → has_stamp (cond b (t ∷ filter ok ss) (filter ok ss)) s ≡ true → (same_stamp t s || has_stamp ss s) ≡ true
    over true later k = or_more (same_stamp t s) (has_stamp (filter ok ss) s) (has_stamp ss s) later k
    over false later k = or_last (same_stamp t s) (has_stamp ss s) (later k)

-- What is served is kept.

only_served : (ss : List Stamp) (s : Stamp) → is_served (Some (only_kept ss)) (served.At s) ≡ true → has_stamp ss s ≡ true
only_served [] s h = false_true h
only_served (t ∷ []) s h = ap (λ b. b || false) h
only_served (t ∷ u ∷ ss) s h = false_true h

served_kept : (w : What) (ss : List Stamp) (s : Stamp) → is_served (served_by w ss) (served.At s) ≡ true → has_stamp ss s ≡ true
served_kept (what.Name component) ss s h = only_served ss s h
served_kept what.List ss s h = only_served ss s h
served_kept what.Stat ss s h = only_served ss s h
served_kept (what.Whole asked) ss s h = over (has_stamp ss asked) refl h
  where
    over : (b : Bool) → has_stamp ss asked ≡ b → is_served (cond b (Some (served.At asked)) None) (served.At s) ≡ true → has_stamp ss s ≡ true
    over true e k = subst (λ t. has_stamp ss t ≡ true) (stamp_eq asked s k) e
    over false e k = false_true k

-- What is opened is what its storage site has.

same_some : (o : Option Stamp) (s : Stamp) → same_version o (Some s) ≡ true → o ≡ Some s
same_some None s h = false_true h
same_some (Some t) s h = ap (λ x. Some x) (stamp_eq t s h)

stored_has : (c : Config) (before : Trace) (e : EpochId) (id : CallId) (m : Mode) (f : FileId) (s : Stamp) (ss : ℕ) → is_placed (history c before) (tree_of c e f.group before) id m f (Some s) ss ≡ true → held_at (tree_of c e f.group before) ss f.ino ≡ Some s
stored_has c before e id mode.Read f s ss h = same_some _ s (both_parts (is_only (kept_of (history c before) (tree_of c e f.group before) f) (Some s)) _ h).1
stored_has c before e id mode.Write f s ss h = same_some _ s (both_parts (is_only (kept_of (history c before) (tree_of c e f.group before) f) (Some s)) _ h).1
stored_has c before e id mode.Resolve f s ss h = same_some _ s (both_parts (is_site (resolving_site (tree_of c e f.group before) id) ss) _ h).1
stored_has c before e id mode.Mend f s ss h = (let t = tree_of c e f.group before in same_some _ s (both_parts (is_site (sync_site t.config t.group t.members) ss) _ h).1)
stored_has c before e id mode.Make f s ss h = false_true (both_parts (is_new_file (tree_of c e f.group before) id f ss) _ h).1

-- Each record.

serves : (c : Config) (before : Trace) (p : Past) → RowsAreLawful c before → Agrees c before p → (w : Record) → MayCome c before w → serves_whole_files p w ≡ true
serves c before p rows a (rec.Look e id request f w (served.At stamp)) may = ap (λ h. is_in h f stamp) a.epochs.history
    ∙ (versions_stand c before rows).known e f stamp (kept_known _ (candidates c before e f) stamp
    (served_kept w (kept_in c before e f) stamp (both_parts (tree_of c e f.group before).started _ may.gives).1))
serves c before p rows a (rec.Grant e id request i m f None ss) may = refl
serves c before p rows a (rec.Grant e id request i m f (Some s) ss) may = both (is_in p.history f s) true
    (ap (λ h. is_in h f s) a.epochs.history ∙ (versions_stand c before rows).held e f ss s (stored_has c before e id m f s ss (refusal_none c before p e id request i m f (Some s) ss may).1)) refl
serves c before p rows a _ may = refl

served_of : (c : Config) → IsNamed c → (trace : Trace) → EachComesSo c trace → OfEach (λ r before. serves_whole_files (past c before) r.what ≡ true) trace
served_of c named [] k = tt
served_of c named (r ∷ before) k = (serves c before (past c before) (rows_of c before k.1) (all_agrees c named before k.1) r.what k.0.row, served_of c named before k.1)

pub served_whole : (c : Config) → IsNamed c → (trace : Trace) → EachComesSo c trace → each serves_whole_files c (nothing_yet c) (reverse trace) ≡ true
served_whole c named trace k = each_of serves_whole_files c trace (served_of c named trace k)

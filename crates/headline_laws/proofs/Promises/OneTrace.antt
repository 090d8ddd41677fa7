-- The names of the printed trace are names of one.
use Rattle.std.proofs.Common.{◌≡◌, ◌++◌, List, [], ◌∷◌, reverse, refl, sym, ◌∙◌, ap, append_assoc}
use Rattle.std.proofs.lemmas.List.{append-nil, reverse-append}
use Rattle.trace_book.specs.Text.{entry_text, text}
use Rattle.trace_book.specs.declared.entry.Entry.{Entry}
use Rattle.role_steps.specs.Views.{Told, Shown}
use Rattle.the_run.specs.Runs.{shown_onto}
use Rattle.the_run.specs.Worlds.{World, Line}
use Rattle.tree_model.specs.Folds.{Trace, told}
use Rattle.row_laws.specs.Shown.{shown, trace_of, with_told}
use Rattle.tree_laws.specs.Printed.{entries, onto_entries}
use Rattle.site_laws.specs.Kept.Printed.{onto_printed, printed as printed_lines}
use Rattle.headline_laws.specs.Promises.OneTrace.{TraceIsOne}

more_reversed : (t : Trace) (r : Entry) (es : List Entry) → reverse t ++ (r ∷ es) ≡ reverse (r ∷ t) ++ es
more_reversed t r es = sym (append_assoc (reverse t) (r ∷ []) es) ∙ ap (λ (xs : List Entry). xs ++ es) (sym (reverse-append (r ∷ []) t))

onto_reversed : (xs : List Line) (es : List Entry) → shown_onto xs es ≡ reverse (shown xs) ++ es
onto_reversed [] es = refl
onto_reversed (x ∷ xs) es = over x.told (onto_reversed xs)
  where
    over : (z : Told) → ((more : List Entry) → shown_onto xs more ≡ reverse (shown xs) ++ more) → shown_onto (record { number = x.number; told = z } ∷ xs) es ≡ reverse (with_told x.number z (shown xs)) ++ es
    over (Shown r) old = old (record { line = x.number; what = r } ∷ es) ∙ more_reversed (shown xs) (record { line = x.number; what = r }) es
    over _ old = old es

shown_text : (xs : List Line) (es : List Entry) → text (shown_onto xs es) ≡ told (shown xs) ++ text es
shown_text [] es = refl
shown_text (x ∷ xs) es = over x.told (shown_text xs)
  where
    over : (z : Told) → ((more : List Entry) → text (shown_onto xs more) ≡ told (shown xs) ++ text more) → text (shown_onto (record { number = x.number; told = z } ∷ xs) es) ≡ told (shown (record { number = x.number; told = z } ∷ xs)) ++ text es
    over (Shown r) old = old (record { line = x.number; what = r } ∷ es) ∙ sym (append_assoc (told (shown xs)) (entry_text x.number r) (text es))
    over _ old = old es

pub tree_names : (xs : List Line) → entries xs ≡ shown xs
tree_names [] = refl
tree_names (x ∷ older) = over x.told (tree_names older)
  where
    over : (z : Told) → entries older ≡ shown older → onto_entries x.number z (entries older) ≡ with_told x.number z (shown older)
    over (Shown r) e = ap (λ (t : Trace). record { line = x.number; what = r } ∷ t) e
    over _ e = e

pub version_names : (xs : List Line) → printed_lines xs ≡ shown xs
version_names [] = refl
version_names (x ∷ older) = over x.told (version_names older)
  where
    over : (z : Told) → printed_lines older ≡ shown older → onto_printed x.number z (printed_lines older) ≡ with_told x.number z (shown older)
    over (Shown r) e = ap (λ (t : Trace). record { line = x.number; what = r } ∷ t) e
    over _ e = e

pub trace_is_one : (w : World) → TraceIsOne w
trace_is_one w = record {
  records = onto_reversed w.trace [] ∙ append-nil (reverse (trace_of w));
  text = shown_text w.trace [] ∙ append-nil (told (trace_of w));
  of_trees = tree_names w.trace;
  of_versions = version_names w.trace;
}

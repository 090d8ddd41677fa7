-- What is printed of a run is the text of its trace.
use Rattle.std.proofs.Common.{◌≡◌, ◌++◌, List, [], ◌∷◌, refl, sym, ◌∙◌, append_assoc}
use Rattle.std.proofs.lemmas.List.{append-nil}
use Rattle.trace_book.specs.declared.entry.Entry.{Entry}
use Rattle.trace_book.specs.Text.{entry_text, text}
use Rattle.role_steps.specs.Views.{Told, Shown}
use Rattle.the_run.specs.Worlds.{World, Line}
use Rattle.the_run.specs.Runs.{printed, shown_onto}
use Rattle.tree_model.specs.Folds.{told}
use Rattle.row_laws.specs.Shown.{shown, trace_of}

shown_text : (xs : List Line) (es : List Entry) → text (shown_onto xs es) ≡ told (shown xs) ++ text es
shown_text [] es = refl
shown_text (x ∷ xs) es = over x.told (shown_text xs)
  where
    over : (z : Told) → ((more : List Entry) → text (shown_onto xs more) ≡ told (shown xs) ++ text more) → text (shown_onto (record { number = x.number; told = z } ∷ xs) es) ≡ told (shown (record { number = x.number; told = z } ∷ xs)) ++ text es
    over (Shown r) old = old (record { line = x.number; what = r } ∷ es) ∙ sym (append_assoc (told (shown xs)) (entry_text x.number r) (text es))
    over _ old = old es

pub printed_told : (w : World) → printed w ≡ told (trace_of w)
printed_told w = shown_text w.trace [] ∙ append-nil (told (trace_of w))

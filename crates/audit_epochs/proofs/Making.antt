-- The make of the call of an open instance.
use Rattle.std.proofs.Common.{◌≡◌, ℕ, ◌≤◌, ◌==◌, Bool, true, false, not, ◌&&◌, ◌||◌, List, [], ◌∷◌, ◌++◌, length, filter, Some, None, refl, sym, ap, ◌∙◌}
use Rattle.std.specs.Prelude.{fold}
use Rattle.std.specs.List.{find, list_any}
use Rattle.locus_ids.specs.declared.ids.Serial.{Serial}
use Rattle.locus_ids.specs.declared.ids.CallId.{CallId}
use Rattle.locus_ids.specs.declared.ids.FileId.{FileId}
use Rattle.locus_ids.specs.declared.ids.Mode.{Mode}
use Rattle.trace_book.specs.Same.{same_call}
use Rattle.trace_book.specs.declared.operation.Op.{Op}
use Rattle.trace_book.specs.declared.operation.Op.TheVariants as op
use Rattle.trace_book.specs.declared.operation.Outcome.{Outcome}
use Rattle.trace_book.specs.declared.operation.Outcome.TheVariants as outcome
use Rattle.tree_model.specs.State.{is_make}
use Rattle.tree_model.specs.Tree.{is_passed_probe}
use Rattle.promises.specs.Past.{Epoch, Instance, Make, is_named}
use Rattle.promises.specs.After.{begun_make}
use Rattle.audit_copies.proofs.of_past_laws.Names.{call_turned, false_true}
use Rattle.audit_copies.proofs.of_past_laws.Changing.{only_one, find_filter, lost_any}
use Rattle.audit_copies.proofs.of_past_laws.TreesLists.{any_one, filter_same}
use Rattle.audit_epochs.specs.Changes.{begins_make, begins_make_by, ends_make, refuses}
use Rattle.audit_epochs.proofs.Lists.{filter_always, fold_same}

abbrev pub make_of : Instance → Make
make_of x = record { call = x.grant.call; group = x.grant.file.group }

abbrev step : List Make → Instance → List Make
step old x = make_of x ∷ old

pub make_begins : (t : Epoch) (i : Serial) (x : Instance) → Some x ≡ find (is_named i) t.opened → length (filter (is_named i) t.opened) ≤ 1 → record t { makes = make_of x ∷ t.makes } ≡ begins_make i t
make_begins t i x h one = ap (λ (xs : List Instance). record t { makes = fold step t.makes xs }) (sym (only_one (is_named i) t.opened x one (sym h)))

pub no_make_begins : (t : Epoch) (i : Serial) → None ≡ find (is_named i) t.opened → t ≡ begins_make i t
no_make_begins t i h = ap (λ (xs : List Instance). record t { makes = fold step t.makes xs }) (sym (find_filter (is_named i) t.opened (sym h)))

passed : (o : Op) (r : Outcome) → is_passed_probe o r ≡ true → (x : Instance) → begun_make o r x ≡ make_of x ∷ []
passed (op.Probe name) outcome.Done h x = refl
passed _ _ h x = false_true h

not_passed : (o : Op) (r : Outcome) → is_passed_probe o r ≡ false → (x : Instance) → begun_make o r x ≡ []
not_passed (op.Probe name) outcome.Done h x = false_true (sym h)
not_passed _ _ h x = refl

pub begins_passed : (t : Epoch) (i : Serial) (o : Op) (r : Outcome) → is_passed_probe o r ≡ true → begins_make i t ≡ begins_make_by i o r t
begins_passed t i o r h = ap (λ (ms : List Make). record t { makes = ms })
    (fold_same step (λ old x. begun_make o r x ++ old) (λ a x. sym (ap (λ (ms : List Make). ms ++ a) (passed o r h x))) t.makes (filter (is_named i) t.opened))

fold_none : (a : List Make) (xs : List Instance) → fold (λ old x. old) a xs ≡ a
fold_none a [] = refl
fold_none a (x ∷ xs) = fold_none a xs

pub begins_not_passed : (t : Epoch) (i : Serial) (o : Op) (r : Outcome) → is_passed_probe o r ≡ false → t ≡ begins_make_by i o r t
begins_not_passed t i o r h = ap (λ (ms : List Make). record t { makes = ms })
    (sym (fold_same (λ old x. begun_make o r x ++ old) (λ old x. old) (λ a x. ap (λ (ms : List Make). ms ++ a) (not_passed o r h x)) t.makes (filter (is_named i) t.opened)
    ∙ fold_none t.makes (filter (is_named i) t.opened)))

-- Makes that are over.

abbrev pub ends_by : Serial → ℕ → List Instance → Make → Bool
ends_by i group xs m = (m.group == group) && list_any (λ (x : Instance). is_named i x && (is_make x.grant.mode && same_call x.grant.call m.call)) xs

pub make_ends : (t : Epoch) (i : Serial) (group : ℕ) (x : Instance) (makes : List Make) → Some x ≡ find (is_named i) t.opened → length (filter (is_named i) t.opened) ≤ 1 → is_make x.grant.mode ≡ true
    → makes ≡ filter (λ (k : Make). not ((k.group == group) && same_call k.call x.grant.call)) t.makes → record t { makes = makes } ≡ ends_make i group t
make_ends t i group x makes h one makes_it e =
    ap (λ (ms : List Make). record t { makes = ms }) (e ∙ filter_same (λ (k : Make). not ((k.group == group) && same_call k.call x.grant.call)) (λ (m : Make). not (ends_by i group t.opened m)) same t.makes)
  where
    same : (m : Make) → not ((m.group == group) && same_call m.call x.grant.call) ≡ not (ends_by i group t.opened m)
    same m = ap (λ b. not ((m.group == group) && b))
        (call_turned m.call x.grant.call
        ∙ (ap (λ b. b && same_call x.grant.call m.call) (sym makes_it)
        ∙ sym (any_one (is_named i) (λ (y : Instance). is_make y.grant.mode && same_call y.grant.call m.call) t.opened x one (sym h))))

and_none : (b : Bool) → not (b && false) ≡ true
and_none true = refl
and_none false = refl

pub no_make_ends : (t : Epoch) (i : Serial) (group : ℕ) (x : Instance) → Some x ≡ find (is_named i) t.opened → length (filter (is_named i) t.opened) ≤ 1 → is_make x.grant.mode ≡ false → t ≡ ends_make i group t
no_make_ends t i group x h one other =
    ap (λ (ms : List Make). record t { makes = ms }) (sym (filter_always (λ (m : Make). not (ends_by i group t.opened m)) each t.makes))
  where
    each : (m : Make) → not (ends_by i group t.opened m) ≡ true
    each m = ap (λ b. not ((m.group == group) && b))
        (any_one (is_named i) (λ (y : Instance). is_make y.grant.mode && same_call y.grant.call m.call) t.opened x one (sym h) ∙ ap (λ b. b && same_call x.grant.call m.call) other)
        ∙ and_none (m.group == group)

none_of_both : (i : Serial) (r : Instance → Bool) (xs : List Instance) → list_any (is_named i) xs ≡ false → list_any (λ x. is_named i x && r x) xs ≡ false
none_of_both i r [] h = refl
none_of_both i r (x ∷ xs) h = at (is_named i x) h (none_of_both i r xs)
  where
    at : (b : Bool) → (b || list_any (is_named i) xs) ≡ false → (list_any (is_named i) xs ≡ false → list_any (λ x. is_named i x && r x) xs ≡ false) → ((b && r x) || list_any (λ x. is_named i x && r x) xs) ≡ false
    at true e later = false_true (sym e)
    at false e later = later e

pub nothing_ends : (t : Epoch) (i : Serial) (group : ℕ) → None ≡ find (is_named i) t.opened → t ≡ ends_make i group t
nothing_ends t i group h =
    ap (λ (ms : List Make). record t { makes = ms }) (sym (filter_always (λ (m : Make). not (ends_by i group t.opened m)) each t.makes))
  where
    each : (m : Make) → not (ends_by i group t.opened m) ≡ true
    each m = ap (λ b. not ((m.group == group) && b))
        (none_of_both i (λ (y : Instance). is_make y.grant.mode && same_call y.grant.call m.call) t.opened (lost_any (is_named i) t.opened (sym h)))
        ∙ and_none (m.group == group)

-- The same of an epoch as it is shown.

pub shown_make_begins : (t now : Epoch) (i : Serial) (x : Instance) (makes : List Make) → t ≡ now → Some x ≡ find (is_named i) t.opened → length (filter (is_named i) t.opened) ≤ 1 → makes ≡ make_of x ∷ t.makes → record t { makes = makes } ≡ begins_make i now
shown_make_begins t now i x makes view h one e = ap (λ (ms : List Make). record t { makes = ms }) e ∙ (make_begins t i x h one ∙ ap (begins_make i) view)

pub shown_no_make_begins : (t now : Epoch) (i : Serial) → t ≡ now → None ≡ find (is_named i) t.opened → now ≡ begins_make i now
shown_no_make_begins t now i view h = sym view ∙ (no_make_begins t i h ∙ ap (begins_make i) view)

pub shown_make_ends : (t now : Epoch) (i : Serial) (group : ℕ) (x : Instance) (makes slice : List Make) → t ≡ now → Some x ≡ find (is_named i) t.opened → length (filter (is_named i) t.opened) ≤ 1 → is_make x.grant.mode ≡ true
    → slice ≡ t.makes → makes ≡ filter (λ (k : Make). not ((k.group == group) && same_call k.call x.grant.call)) slice → record t { makes = makes } ≡ ends_make i group now
shown_make_ends t now i group x makes slice view h one makes_it lent e =
    make_ends t i group x makes h one makes_it (e ∙ ap (filter (λ (k : Make). not ((k.group == group) && same_call k.call x.grant.call))) lent) ∙ ap (ends_make i group) view

pub shown_no_make_ends : (t now : Epoch) (i : Serial) (group : ℕ) (x : Instance) → t ≡ now → Some x ≡ find (is_named i) t.opened → length (filter (is_named i) t.opened) ≤ 1 → is_make x.grant.mode ≡ false → now ≡ ends_make i group now
shown_no_make_ends t now i group x view h one other = sym view ∙ (no_make_ends t i group x h one other ∙ ap (ends_make i group) view)

pub shown_nothing_ends : (t now : Epoch) (i : Serial) (group : ℕ) → t ≡ now → None ≡ find (is_named i) t.opened → now ≡ ends_make i group now
shown_nothing_ends t now i group view h = sym view ∙ (nothing_ends t i group h ∙ ap (ends_make i group) view)

-- An open that makes nothing is refused.
pub refuses_no_make : (t : Epoch) (call : CallId) (m : Mode) (f : FileId) → is_make m ≡ false → t ≡ refuses call m f t
refuses_no_make t call m f h =
    ap (λ (ms : List Make). record t { makes = ms })
    (sym (filter_always (λ (k : Make). not (is_make m && ((k.group == f.group) && same_call k.call call))) (λ k. ap (λ b. not (b && ((k.group == f.group) && same_call k.call call))) h) t.makes))

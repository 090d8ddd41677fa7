-- A directory in which an entry was put is a directory.
use Rattle.std.proofs.Common.{◌≡◌, ℕ, Bool, true, false, cond, suc, ◌+◌, ◌<◌, List, [], ◌∷◌, ◌++◌, length, take, drop, get_or, set, sym, ap, ◌∙◌, refl, add-one}
use Rattle.std.proofs.lemmas.List.{drop_more, set_split}
use Rattle.std.specs.List.{AllByRecursion}
use Rattle.std.specs.declared.cmp.Ordering.{Ordering}
use Rattle.std.specs.declared.cmp.Ordering.TheVariants.{Less, Equal, Greater}
use Rattle.std.specs.Ordering.{ordering_reverse}
use Rattle.dir_format.specs.declared.entry.Entry.{Entry}
use Rattle.dir_format.specs.Entries.{entry_cmp, IsEntry, IsDir, Ascends, OneKind, HasKindOf, placed, with_entry}
use Rattle.dir_format.specs.Effects.{removed, is_spent}
use Rattle.dir_format.proofs.Tests.{all_weaker}
use Rattle.dir_format.proofs.Orders.{entry_total}

placed_all : (P : Entry → Type 0) (o : Ordering) (e d : Entry) (ds others : List Entry) → P e → P d → AllByRecursion P ds → AllByRecursion P others → AllByRecursion P (placed o e d ds others)
placed_all P Less e d ds others pe pd h k = (pe, (pd, h))
placed_all P Equal e d ds others pe pd h k = (pe, h)
placed_all P Greater e d ds others pe pd h k = (pd, k)

-- what holds of all and of the entry holds of all with it
pub all_with : (P : Entry → Type 0) (e : Entry) (ds : List Entry) → P e → AllByRecursion P ds → AllByRecursion P (with_entry e ds)
all_with P e [] pe h = (pe, tt)
all_with P e (d ∷ ds) pe h = placed_all P (entry_cmp e d) e d ds (with_entry e ds) pe h.0 h.1 (all_with P e ds pe h.1)

placed_ascends : (o : Ordering) (e d : Entry) (ds : List Entry) → entry_cmp e d ≡ o → Ascends (d ∷ ds) → Ascends (with_entry e ds) → Ascends (placed o e d ds (with_entry e ds))
placed_ascends Less e d ds is h k = ((is, all_weaker (λ x lt. entry_total.trans e d x is lt) ds h.0), h)
placed_ascends Equal e d ds is h k = (all_weaker (λ x lt. entry_total.congr e d x is ∙ lt) ds h.0, h.1)
placed_ascends Greater e d ds is h k = (all_with (λ x. entry_cmp d x ≡ Less) e ds (entry_total.antisymm d e ∙ ap ordering_reverse is) h.0, k)

ascends_with : (e : Entry) (ds : List Entry) → Ascends ds → Ascends (with_entry e ds)
ascends_with e [] h = (tt, tt)
ascends_with e (d ∷ ds) h = placed_ascends (entry_cmp e d) e d ds refl h (ascends_with e ds h.1)

placed_kinds : (o : Ordering) (e d : Entry) (ds : List Entry) → HasKindOf e (d ∷ ds) → OneKind (d ∷ ds) → OneKind (with_entry e ds) → OneKind (placed o e d ds (with_entry e ds))
placed_kinds Less e d ds has h k = (has, h)
placed_kinds Equal e d ds has h k = (has.1, h.1)
placed_kinds Greater e d ds has h k = (all_with (λ x. x.ino ≡ d.ino → x.kind ≡ d.kind) e ds (λ same. sym (has.0 (sym same))) h.0, k)

kinds_with : (e : Entry) (ds : List Entry) → HasKindOf e ds → OneKind ds → OneKind (with_entry e ds)
kinds_with e [] has h = (tt, tt)
kinds_with e (d ∷ ds) has h = placed_kinds (entry_cmp e d) e d ds has h (kinds_with e ds has.1 h.1)

pub dir_with : (e : Entry) (ds : List Entry) → IsEntry e → HasKindOf e ds → IsDir ds → IsDir (with_entry e ds)
dir_with e ds fits has h = record { entries = all_with IsEntry e ds fits h.entries; order = ascends_with e ds h.order; kinds = kinds_with e ds has h.kinds }

-- an entry in place of the one of its pair
pub replaced : (e : Entry) (ds : List Entry) (i : ℕ) (x : Entry) → i < length ds → x ≡ get_or ds i x → entry_cmp e x ≡ Equal → take i ds ++ with_entry e (drop i ds) ≡ with_entry e ds → set ds i e ≡ with_entry e ds
replaced e ds i x lt is same h =
    let rest : drop i ds ≡ x ∷ drop (i + 1) ds = drop_more ds i x lt ∙ ap (λ (y : Entry). y ∷ drop (i + 1) ds) (sym is) in
    let there : with_entry e (drop i ds) ≡ e ∷ drop (i + 1) ds = ap (with_entry e) rest ∙ rw same refl in
    set_split ds i e lt ∙ ap (λ (n : ℕ). take i ds ++ e ∷ drop n ds) (sym (add-one i)) ∙ ap (λ (l : List Entry). take i ds ++ l) (sym there) ∙ h

kind_by : (b : Bool) (d e : Entry) → e.kind ≡ d.kind → (cond b d e).kind ≡ d.kind
kind_by true d e h = refl
kind_by false d e h = h

pub kind-removed : (d : Entry) (seen : List ℕ) → (removed d seen).kind ≡ d.kind
kind-removed d seen = kind_by (is_spent d) d (record { name = d.name; ino = d.ino; kind = d.kind; count = suc d.count; seen = seen }) refl

-- What an operation gives and makes of an instance, by the value of the records and by the tree of a group.
use Rattle.std.proofs.Common.{◌≡◌, ℕ, ◌+◌, ◌-◌, ◌==◌, Bool, true, false, ◌&&◌, cond, List, length, filter, map, Option, Some, None, refl, sym, ap, ◌∙◌}
use Rattle.std.specs.Prelude.{sum_by, nat_lt}
use Rattle.std.specs.List.{find, list_any}
use Rattle.std.specs.Option.{option_map, is_none}
use Rattle.locus_ids.specs.declared.ids.FileId.{FileId}
use Rattle.locus_ids.specs.declared.ids.Stamp.{Stamp}
use Rattle.locus_ids.specs.declared.ids.Brought.{Brought}
use Rattle.commit_graph.specs.declared.history.Version.{Version}
use Rattle.commit_graph.specs.Versions.{same_file, kept, content_of}
use Rattle.trace_book.specs.Same.{same_call}
use Rattle.trace_book.specs.declared.operation.Op.{Op}
use Rattle.trace_book.specs.declared.operation.Outcome.{Outcome}
use Rattle.trace_book.specs.declared.operation.Op.TheVariants as op
use Rattle.tree_model.specs.declared.instance.Instance.{Instance}
use Rattle.tree_model.specs.State.{TreeState, kept_of, stamps_of, has_stamp}
use Rattle.tree_model.specs.Working as old
use Rattle.tree_model.specs.of_file_effects.Effects.{Removes, Mends}
use Rattle.tree_model.specs.of_file_effects.Works.{commit_result, aborted}
use Rattle.tree_model.specs.of_dir_reconcile.declared.kept.KeptVector.{KeptVector}
use Rattle.tree_model.specs.of_dir_reconcile.Rescues.{rescued, rescue_wanted}
use Rattle.tree_model.specs.of_dir_format.Contents.{entries_of}
use Rattle.tree_model.specs.of_dir_format.Grammar.{dir_bytes}
use Rattle.tree_model.specs.Histories.{stamped_content}
use Rattle.tree_model.specs.Mending.{file_in, is_kept, vector_kept, kept_vectors, joined_all, join_of_kept, joined_content, wants_rescue_in}
use Rattle.locus_ids.specs.Sizes.{pack_pages}
use Rattle.commit_graph.specs.Counters.{next_number}
use Rattle.commit_graph.specs.Vectors.{vector_of}
use Rattle.promises.specs.Past.{Past, Epoch, Copy, Instance as OpenInstance, kept_in, candidates}
use Rattle.promises.specs.Tree as new
use Rattle.promises.specs.Rows.{brought_in}
use Rattle.past_laws.specs.Agreement.{opened_in, instance_of}
use Rattle.past_laws.proofs.Names.{number_eq}
use Rattle.past_laws.proofs.TreesLists.{filter_map, map_map, find_map, any_map, filter_within, find_within, any_within, filter_both, filter_same, filter_in, map_within, find_both, find_same, sum_map}

-- The epoch has the versions and the open instances of the tree, by the same history.
pub record TreeIs (h : List Version) (t : TreeState) (p : Past) (u : Epoch) : Type 0 where
  pub history : p.history ≡ h
  pub known : brought_in u t.group ≡ t.known
  pub opened : opened_in u t.group ≡ t.instances
  pub pages : (site : ℕ) → new.held_pages p u t.group site ≡ old.held_pages h t site

-- Versions.

and_turned : (a b : Bool) → (a && b) ≡ (b && a)
and_turned true true = refl
and_turned true false = refl
and_turned false true = refl
and_turned false false = refl

pub candidates_are : (h : List Version) (t : TreeState) (p : Past) (u : Epoch) → TreeIs h t p u → (f : FileId) → f.group ≡ t.group → candidates u f ≡ stamps_of t.known f.ino
candidates_are h t p u k f g = sym (ap (λ bs. stamps_of bs f.ino) (sym k.known)
    ∙ (ap (λ bs. map (λ (b : Brought). b.stamp) bs) (filter_map (λ (b : Brought). b.ino == f.ino) brought (filter in_group u.known))
    ∙ (map_map (λ (b : Brought). b.stamp) brought (filter of_number (filter in_group u.known))
    ∙ ap (λ vs. map (λ (v : Copy). v.stamp) vs) (filter_both of_number in_group u.known ∙ filter_same (λ v. of_number v && in_group v) (λ v. same_file v.file f) same u.known))))
  where
    brought : Copy → Brought
    brought v = record { ino = v.file.ino; stamp = v.stamp }

    in_group : Copy → Bool
    in_group v = v.file.group == t.group

    of_number : Copy → Bool
    of_number v = v.file.ino == f.ino

    same : (v : Copy) → (of_number v && in_group v) ≡ same_file v.file f
    same v = and_turned (of_number v) (in_group v) ∙ ap (λ n. (v.file.group == n) && of_number v) (sym g)

pub kept_is : (h : List Version) (t : TreeState) (p : Past) (u : Epoch) → TreeIs h t p u → (f : FileId) → f.group ≡ t.group → kept_in p u f ≡ kept_of h t f
kept_is h t p u k f g = ap (λ x. kept x f (candidates u f)) k.history ∙ ap (kept h f) (candidates_are h t p u k f g)

-- Open instances.

abbrev pub is_of_group : TreeState → OpenInstance → Bool
is_of_group t x = x.grant.file.group == t.group

pub opened_find : (h : List Version) (t : TreeState) (p : Past) (u : Epoch) → TreeIs h t p u → (q : Instance → Bool) → ((x : OpenInstance) → q (instance_of x) ≡ true → is_of_group t x ≡ true) → find q t.instances ≡ option_map instance_of (find (λ (x : OpenInstance). q (instance_of x)) u.opened)
opened_find h t p u k q here = ap (find q) (sym k.opened) ∙ (find_map q instance_of (filter (is_of_group t) u.opened) ∙ ap (option_map instance_of) (find_within (λ x. q (instance_of x)) (is_of_group t) here u.opened))

pub opened_filter : (h : List Version) (t : TreeState) (p : Past) (u : Epoch) → TreeIs h t p u → (q : Instance → Bool) → ((x : OpenInstance) → q (instance_of x) ≡ true → is_of_group t x ≡ true) → filter q t.instances ≡ map instance_of (filter (λ (x : OpenInstance). q (instance_of x)) u.opened)
opened_filter h t p u k q here = ap (filter q) (sym k.opened) ∙ (filter_map q instance_of (filter (is_of_group t) u.opened) ∙ ap (map instance_of) (filter_within (λ x. q (instance_of x)) (is_of_group t) here u.opened))

pub opened_any : (h : List Version) (t : TreeState) (p : Past) (u : Epoch) → TreeIs h t p u → (q : Instance → Bool) → ((x : OpenInstance) → q (instance_of x) ≡ true → is_of_group t x ≡ true) → list_any q t.instances ≡ list_any (λ (x : OpenInstance). q (instance_of x)) u.opened
opened_any h t p u k q here = ap (list_any q) (sym k.opened) ∙ (any_map q instance_of (filter (is_of_group t) u.opened) ∙ any_within (λ x. q (instance_of x)) (is_of_group t) here u.opened)

-- Effects.

removes_are : (h : List Version) (p : Past) → p.history ≡ h → (name : List ℕ) (ino : ℕ) (o : Option OpenInstance) → new.removes name ino p o ≡ old.sees h name ino (option_map instance_of o)
removes_are h p k name ino None = refl
removes_are h p k name ino (Some y) = at y.work.last refl
  where
    at : (v : Option Stamp) → y.work.last ≡ v → new.removes name ino p (Some y) ≡ old.sees h name ino (Some (instance_of y))
    at None e = rw (e, new.removes, old.sees) refl
    at (Some s) e = rw (e, new.removes, old.sees) (ap (λ x. Some (Removes name ino (vector_of x y.grant.file s))) k)

target_is : (h : List Version) (t : TreeState) (p : Past) (u : Epoch) → TreeIs h t p u → (x : OpenInstance) → x.grant.file.group ≡ t.group → (ino : ℕ) → option_map instance_of (find (new.is_target x ino) u.opened) ≡ find (old.is_target x.grant.call ino) t.instances
target_is h t p u k x g ino = sym (ap (find (old.is_target x.grant.call ino)) (sym k.opened)
    ∙ (find_map (old.is_target x.grant.call ino) instance_of (filter (is_of_group t) u.opened)
    ∙ ap (option_map instance_of) (find_both (λ y. old.is_target x.grant.call ino (instance_of y)) (is_of_group t) u.opened ∙ find_same (λ y. old.is_target x.grant.call ino (instance_of y) && is_of_group t y) (new.is_target x ino) same u.opened)))
  where
    turn : (a b d : Bool) → ((a && b) && d) ≡ (a && (d && b))
    turn true b d = and_turned b d
    turn false b d = refl

    same : (y : OpenInstance) → (old.is_target x.grant.call ino (instance_of y) && is_of_group t y) ≡ new.is_target x ino y
    same y = turn (same_call y.grant.call x.grant.call) (y.grant.file.ino == ino) (y.grant.file.group == t.group) ∙ ap (λ n. same_call y.grant.call x.grant.call && ((y.grant.file.group == n) && (y.grant.file.ino == ino))) (sym g)

-- the versions that are kept of the files of the group
vectors_are : (h : List Version) (t : TreeState) (p : Past) (u : Epoch) → TreeIs h t p u → new.kept_vectors p u t.group ≡ kept_vectors h t
vectors_are h t p u k = ap (map to_vector) (sym (filter_both is_kept_now in_group u.known ∙ filter_same (λ v. is_kept_now v && in_group v) (λ v. in_group v && is_kept_now v) (λ v. and_turned (is_kept_now v) (in_group v)) u.known))
    ∙ (ap (map to_vector) (filter_in in_group is_kept_now (λ v. is_kept h t (brought v)) same u.known)
    ∙ (ap (map to_vector) (filter_both (λ v. is_kept h t (brought v)) in_group u.known ∙ filter_same (λ v. is_kept h t (brought v) && in_group v) (λ v. in_group v && is_kept h t (brought v)) (λ v. and_turned (is_kept h t (brought v)) (in_group v)) u.known ∙ sym (filter_both in_group (λ v. is_kept h t (brought v)) u.known))
    ∙ (map_within in_group to_vector (λ v. vector_kept h t (brought v)) vector (filter (λ v. is_kept h t (brought v)) u.known)
    ∙ (ap (map (λ v. vector_kept h t (brought v))) (filter_both in_group (λ v. is_kept h t (brought v)) u.known ∙ (filter_same (λ v. in_group v && is_kept h t (brought v)) (λ v. is_kept h t (brought v) && in_group v) (λ v. and_turned (in_group v) (is_kept h t (brought v))) u.known ∙ sym (filter_both (λ v. is_kept h t (brought v)) in_group u.known)))
    ∙ (sym (map_map (vector_kept h t) brought (filter (λ v. is_kept h t (brought v)) (filter in_group u.known)))
    ∙ (ap (map (vector_kept h t)) (sym (filter_map (is_kept h t) brought (filter in_group u.known)))
    ∙ ap (λ bs. map (vector_kept h t) (filter (is_kept h t) bs)) k.known))))))
  where
    brought : Copy → Brought
    brought v = record { ino = v.file.ino; stamp = v.stamp }

    in_group : Copy → Bool
    in_group v = v.file.group == t.group

    is_kept_now : Copy → Bool
    is_kept_now v = has_stamp (kept_in p u v.file) v.stamp

    to_vector : Copy → KeptVector
    to_vector v = record { ino = v.file.ino; vector = vector_of p.history v.file v.stamp }

    file_is : (v : Copy) → in_group v ≡ true → v.file ≡ file_in t v.file.ino
    file_is v e = ap (λ n. record { group = n; ino = v.file.ino }) (number_eq v.file.group t.group e)

    same : (v : Copy) → in_group v ≡ true → is_kept_now v ≡ is_kept h t (brought v)
    same v e = ap (λ ss. has_stamp ss v.stamp) (kept_is h t p u k v.file (number_eq v.file.group t.group e) ∙ ap (kept_of h t) (file_is v e))

    vector : (v : Copy) → in_group v ≡ true → to_vector v ≡ vector_kept h t (brought v)
    vector v e = ap (λ x. record { ino = v.file.ino; vector = vector_of x v.file v.stamp }) k.history ∙ ap (λ f. record { ino = v.file.ino; vector = vector_of h f v.stamp }) (file_is v e)

join_is : (h : List Version) (t : TreeState) (p : Past) (u : Epoch) → TreeIs h t p u → (f : FileId) → f.group ≡ t.group → new.join_of_kept p u f ≡ join_of_kept h t f
join_is h t p u k f g = ap (λ x. joined_all (map (λ s. entries_of (content_of x f s)) (kept_in p u f))) k.history ∙ ap (λ ss. joined_all (map (λ s. entries_of (content_of h f s)) ss)) (kept_is h t p u k f g)

pub mended_is : (h : List Version) (t : TreeState) (p : Past) (u : Epoch) → TreeIs h t p u → (f : FileId) → f.group ≡ t.group → new.mended p u f ≡ joined_content h t f
mended_is h t p u k f g = ap (λ ds. dir_bytes (rescued ds (new.kept_vectors p u f.group))) (join_is h t p u k f g) ∙ ap (λ vs. dir_bytes (rescued (join_of_kept h t f) vs)) (ap (new.kept_vectors p u) g ∙ vectors_are h t p u k)

pub rescue_is : (h : List Version) (t : TreeState) (p : Past) (u : Epoch) → TreeIs h t p u → (f : FileId) → f.group ≡ t.group → new.wants_rescue p u f ≡ wants_rescue_in h t f
rescue_is h t p u k f g = ap (λ ds. rescue_wanted ds (new.kept_vectors p u f.group)) (join_is h t p u k f g) ∙ ap (λ vs. rescue_wanted (join_of_kept h t f) vs) (ap (new.kept_vectors p u) g ∙ vectors_are h t p u k)

deed_is : (h : List Version) (t : TreeState) (p : Past) (u : Epoch) → TreeIs h t p u → (o : Op) (x : OpenInstance) → x.grant.file.group ≡ t.group → new.deed_of p u o x ≡ old.deed_of h t o (instance_of x)
deed_is h t p u k (op.Remove name ino) x g = removes_are h p k.history name ino (find (new.is_target x ino) u.opened) ∙ ap (old.sees h name ino) (target_is h t p u k x g ino)
deed_is h t p u k op.Mend x g = ap (λ ss. Some (Mends (old.are_several ss) (new.mended p u x.grant.file))) (kept_is h t p u k x.grant.file g) ∙ ap (λ bs. Some (Mends (old.are_several (kept_of h t x.grant.file)) bs)) (mended_is h t p u k x.grant.file g)
deed_is h t p u k o x g = refl

pub effect_is : (h : List Version) (t : TreeState) (p : Past) (u : Epoch) → TreeIs h t p u → (o : Op) (x : OpenInstance) → x.grant.file.group ≡ t.group → new.effect_on p u o x ≡ old.effect_on h t o (instance_of x)
effect_is h t p u k o x g = ap (λ d. old.effect_of d x.work.content) (deed_is h t p u k o x g)

-- Room.

changed_are : (h : List Version) (t : TreeState) (p : Past) (u : Epoch) → TreeIs h t p u → (site : ℕ) → new.changed_pages u t.group site ≡ old.changed_pages t site
changed_are h t p u k site = sym (ap (λ xs. sum_by changed (filter here xs)) (sym k.opened)
    ∙ (ap (sum_by changed) (filter_map here instance_of (filter (is_of_group t) u.opened))
    ∙ (sum_map changed instance_of (filter (λ x. here (instance_of x)) (filter (is_of_group t) u.opened))
    ∙ ap (sum_by (λ (x : OpenInstance). length x.work.changed)) (filter_both (λ x. here (instance_of x)) (is_of_group t) u.opened))))
  where
    changed : Instance → ℕ
    changed x = length x.work.changed

    here : Instance → Bool
    here x = x.grant.ss == site

pub free_is : (h : List Version) (t : TreeState) (p : Past) (u : Epoch) → TreeIs h t p u → (group site : ℕ) → group ≡ t.group → new.free_pages p u group site ≡ old.free_pages h t site
free_is h t p u k group site g = ap (λ n. new.free_pages p u n site) g ∙ (ap (λ n. pack_pages - (n + new.changed_pages u t.group site)) (k.pages site) ∙ ap (λ n. pack_pages - (old.held_pages h t site + n)) (changed_are h t p u k site))

-- Commits and operations.

pub parents_are : (h : List Version) (t : TreeState) (p : Past) (u : Epoch) → TreeIs h t p u → (x : OpenInstance) → x.grant.file.group ≡ t.group → new.parents_of p u x ≡ old.parents_of h t (instance_of x)
parents_are h t p u k x g = ap (λ ss. cond (old.merges x.grant.mode && is_none x.work.committed) ss (old.list_of x.work.last)) (kept_is h t p u k x.grant.file g)

pub spent_is : (h : List Version) (t : TreeState) (p : Past) (u : Epoch) → TreeIs h t p u → (x : OpenInstance) → x.grant.file.group ≡ t.group → new.is_spent p u x ≡ old.is_spent h t (instance_of x)
spent_is h t p u k x g = ap (λ y. nat_lt old.max_counter (next_number y x.grant.file (new.parents_of p u x) x.grant.ss)) k.history ∙ ap (λ ss. nat_lt old.max_counter (next_number h x.grant.file ss x.grant.ss)) (parents_are h t p u k x g)

pub result_is : (h : List Version) (t : TreeState) (p : Past) (u : Epoch) → TreeIs h t p u → (o : Op) (x : OpenInstance) → x.grant.file.group ≡ t.group → new.result_on p u o x ≡ old.result_on h t o (instance_of x)
result_is h t p u k op.Commit x g = ap (λ b. commit_result b x.work) (spent_is h t p u k x g)
result_is h t p u k op.Abort x g = refl
result_is h t p u k o x g = ap (λ n. old.in_room n x.work.changed (new.effect_on p u o x)) (free_is h t p u k x.grant.file.group x.grant.ss g)
    ∙ ap (old.in_room (old.free_pages h t x.grant.ss) x.work.changed) (effect_is h t p u k o x g)

pub work_is : (h : List Version) (t : TreeState) (p : Past) (u : Epoch) → TreeIs h t p u → (o : Op) (result : Outcome) (x : OpenInstance) → x.grant.file.group ≡ t.group → new.work_after p u o result x ≡ old.work_after h t o result (instance_of x)
work_is h t p u k op.Commit result x g = refl
work_is h t p u k op.Abort result x g = ap (λ y. aborted x.grant.mode (stamped_content y x.grant.file x.work.last) x.work) k.history
work_is h t p u k o result x g = ap (λ e. old.operated_by result e x.work) (effect_is h t p u k o x g)

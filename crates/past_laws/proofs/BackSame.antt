-- Refusals, looks and replies that test as the same are the same.
use Rattle.std.proofs.Common.{◌≡◌, ℕ, ◌==◌, ◌&&◌, true, List, [], ◌∷◌, Option, Some, None, refl, ap, ◌∙◌}
use Rattle.std.specs.Str.{bytes_eq}
use Rattle.std.proofs.lemmas.Slice.Eq.{bytes_eq-Decides}
use Rattle.locus_ids.specs.declared.ids.Stamp.{Stamp}
use Rattle.locus_ids.specs.declared.refusal.Refusal.{Refusal}
use Rattle.locus_ids.specs.declared.refusal.Refusal.TheVariants as refusal
use Rattle.commit_graph.specs.Versions.{same_file, same_stamp}
use Rattle.trace_book.specs.declared.operation.What.{What}
use Rattle.trace_book.specs.declared.operation.What.TheVariants as what
use Rattle.trace_book.specs.declared.reply.Reply.{Reply}
use Rattle.trace_book.specs.declared.reply.Reply.TheVariants as reply
use Rattle.call_rules.specs.declared.want.Want.{Want}
use Rattle.call_rules.specs.declared.want.Want.TheVariants as want
use Rattle.locus_ids.specs.declared.ids.FileId.{FileId}
use Rattle.tree_model.specs.Same.{same_kind, same_refusal, same_version}
use Rattle.promises.specs.Same.{same_list, same_reply, same_request, same_what}
use Rattle.past_laws.proofs.BackActs.{kind_back}
use Rattle.past_laws.proofs.Names.{both_parts, epoch_eq, false_true, file_eq, number_eq, stamp_eq}

bytes_back : (a b : List ℕ) → bytes_eq a b ≡ true → a ≡ b
bytes_back a b h = (bytes_eq-Decides a b).0 h

names_back : (xs ys : List (List ℕ)) → same_list bytes_eq xs ys ≡ true → xs ≡ ys
names_back [] [] h = refl
names_back (x ∷ xs) (y ∷ ys) h = (let parts = both_parts (bytes_eq x y) (same_list bytes_eq xs ys) h in ap (λ z. z ∷ xs) (bytes_back x y parts.0) ∙ ap (λ zs. y ∷ zs) (names_back xs ys parts.1))
names_back [] (y ∷ ys) h = false_true h
names_back (x ∷ xs) [] h = false_true h

version_back : (a b : Option Stamp) → same_version a b ≡ true → a ≡ b
version_back None None h = refl
version_back (Some a) (Some b) h = ap (λ s. Some s) (stamp_eq a b h)
version_back None (Some b) h = false_true h
version_back (Some a) None h = false_true h

pub refusal_back : (a b : Refusal) → same_refusal a b ≡ true → a ≡ b
refusal_back (refusal.Busy s p) (refusal.Busy t q) h = (let parts = both_parts (s == t) (p == q) h in ap (λ z. refusal.Busy z p) (number_eq s t parts.0) ∙ ap (refusal.Busy t) (number_eq p q parts.1))
refusal_back (refusal.Absent x) (refusal.Absent y) h = ap (λ z. refusal.Absent z) (bytes_back x y h)
refusal_back (refusal.NotDir x) (refusal.NotDir y) h = ap (λ z. refusal.NotDir z) (bytes_back x y h)
refusal_back refusal.IsDir refusal.IsDir h = refl
refusal_back (refusal.Exists x) (refusal.Exists y) h = ap (λ z. refusal.Exists z) (number_eq x y h)
refusal_back (refusal.NotEmpty x) (refusal.NotEmpty y) h = ap (λ z. refusal.NotEmpty z) (bytes_back x y h)
refusal_back (refusal.Conflict a b) (refusal.Conflict d e) h = (let parts = both_parts (same_stamp a d) (same_stamp b e) h in ap (λ z. refusal.Conflict z b) (stamp_eq a d parts.0) ∙ ap (refusal.Conflict d) (stamp_eq b e parts.1))
refusal_back (refusal.Ambiguous a b) (refusal.Ambiguous d e) h = (let parts = both_parts (a == d) (b == e) h in ap (λ z. refusal.Ambiguous z b) (number_eq a d parts.0) ∙ ap (refusal.Ambiguous d) (number_eq b e parts.1))
refusal_back refusal.NoStorage refusal.NoStorage h = refl
refusal_back refusal.NoPartition refusal.NoPartition h = refl
refusal_back (refusal.Changed x) (refusal.Changed y) h = ap (λ z. refusal.Changed z) (epoch_eq x y h)
refusal_back refusal.BadDescriptor refusal.BadDescriptor h = refl
refusal_back (refusal.Stale x) (refusal.Stale y) h = ap (λ z. refusal.Stale z) (epoch_eq x y h)
refusal_back refusal.TooLong refusal.TooLong h = refl
refusal_back (refusal.NoSpace a b) (refusal.NoSpace d e) h = (let parts = both_parts (a == d) (b == e) h in ap (λ z. refusal.NoSpace z b) (number_eq a d parts.0) ∙ ap (refusal.NoSpace d) (number_eq b e parts.1))
refusal_back refusal.NoInode refusal.NoInode h = refl
refusal_back refusal.BadName refusal.BadName h = refl
refusal_back refusal.ReadOnly refusal.ReadOnly h = refl
refusal_back refusal.NoDescriptor refusal.NoDescriptor h = refl
refusal_back refusal.Spent refusal.Spent h = refl
refusal_back refusal.NoConflict refusal.NoConflict h = refl
refusal_back _ _ h = false_true h

what_back : (a b : What) → same_what a b ≡ true → a ≡ b
what_back (what.Name x) (what.Name y) h = ap (λ z. what.Name z) (bytes_back x y h)
what_back what.List what.List h = refl
what_back what.Stat what.Stat h = refl
what_back (what.Whole x) (what.Whole y) h = ap (λ z. what.Whole z) (stamp_eq x y h)
what_back _ _ h = false_true h

pub look_back : (w : Want) (f : FileId) (v : What) → same_request w (want.Look f v) ≡ true → w ≡ want.Look f v
look_back (want.Look g u) f v h = (let parts = both_parts (same_file g f) (same_what u v) h in ap (λ z. want.Look z u) (file_eq g f parts.0) ∙ ap (want.Look f) (what_back u v parts.1))
look_back _ f v h = false_true h

pub reply_back : (a b : Reply) → same_reply a b ≡ true → a ≡ b
reply_back (reply.Made x) (reply.Made y) h = ap (λ z. reply.Made z) (number_eq x y h)
reply_back reply.Done reply.Done h = refl
reply_back (reply.Names xs) (reply.Names ys) h = ap (λ z. reply.Names z) (names_back xs ys h)
reply_back (reply.Stat k f n s) (reply.Stat l g m t) h =
    let first = both_parts (same_kind k l) (same_file f g && ((n == m) && same_stamp s t)) h in
    let second = both_parts (same_file f g) ((n == m) && same_stamp s t) first.1 in
    let third = both_parts (n == m) (same_stamp s t) second.1 in
    ap (λ z. reply.Stat z f n s) (kind_back k l first.0) ∙ (ap (λ z. reply.Stat l z n s) (file_eq f g second.0) ∙ (ap (λ z. reply.Stat l g z s) (number_eq n m third.0) ∙ ap (reply.Stat l g m) (stamp_eq s t third.1)))
reply_back (reply.Opened x) (reply.Opened y) h = ap (λ z. reply.Opened z) (number_eq x y h)
reply_back (reply.Data x) (reply.Data y) h = ap (λ z. reply.Data z) (bytes_back x y h)
reply_back (reply.Committed x) (reply.Committed y) h = ap (λ z. reply.Committed z) (stamp_eq x y h)
reply_back (reply.Closed x) (reply.Closed y) h = ap (λ z. reply.Closed z) (version_back x y h)
reply_back (reply.No x) (reply.No y) h = ap (λ z. reply.No z) (refusal_back x y h)
reply_back _ _ h = false_true h

-- What an operation on a directory does to the messages in it.
use Rattle.std.proofs.Common.{◌≡◌, ℕ, suc, ◌+◌, ◌≤◌, ◌==◌, max, Bool, true, false, not, ◌&&◌, ◌||◌, cond, List, [], ◌∷◌, ◌++◌, length, Option, None, Some, refl, sym, ◌∙◌, ap, subst, ◌⊎◌, inl, inr, arith}
use Rattle.std.proofs.lemmas.Bool.Decides.{nat_tests}
use Rattle.std.proofs.lemmas.Slice.Eq.{bytes_eq-Decides}
use Rattle.std.specs.List.{AllByRecursion, find, list_all}
use Rattle.std.specs.Prelude.{codes, nat_le, nat_lt}
use Rattle.std.specs.Fmt.{decimal}
use Rattle.std.specs.Str.{bytes_eq}
use Rattle.plain_facts.proofs.Numbers.{equal}
use Rattle.plain_facts.proofs.Options.{none_some, some_same}
use Rattle.plain_facts.proofs.Tests.{and_first, and_second, false_unless, or_either, true_false}
use Rattle.locus_ids.specs.declared.ids.Kind.{Kind}
use Rattle.locus_ids.specs.declared.refusal.Refusal.TheVariants as refusal
use Rattle.locus_ids.specs.Sizes.{directory_bytes_max}
use Rattle.trace_book.specs.Messages.{is_message}
use Rattle.trace_book.specs.Names.{is_name, is_name_byte, plain_name}
use Rattle.trace_book.specs.declared.operation.Op.{Op}
use Rattle.trace_book.specs.declared.operation.Op.TheVariants as op
use Rattle.trace_book.specs.declared.operation.Outcome.TheVariants as outcome
use Rattle.dir_format.specs.declared.entry.Entry.{Entry}
use Rattle.dir_format.specs.declared.looking.LookResult.{LookResult}
use Rattle.dir_format.specs.declared.looking.LookResult.TheVariants as look
use Rattle.dir_format.specs.Effects.{DirEffect, becomes, dir_effect, empty_among, find_by, insert_beside, is_spent, live_entry, live_one, moved, probe_beside, remove_entry, removed, rename_beside, rename_by, rename_entry, size_of}
use Rattle.dir_format.specs.Entries.{IsDir, IsEntry, is_live, is_pair, nothing_seen, pair_in, with_entry}
use Rattle.dir_format.specs.Lookups.{has_name, is_meant, lookup, numbered_name, shown_names}
use Rattle.dir_format.proofs.Placing.{all_with}
use Rattle.dir_format.proofs.Tests.{all_weaker}
use Rattle.dir_reconcile.proofs.JoinLaws.{same_name}
use Rattle.file_effects.specs.Effects.{is_refusal}
use Rattle.file_effects.specs.Effects.{As, Effect, Removes, effect, in_directory, is_worded, on_directory}
use Rattle.dir_format.specs.Contents.{entries_of, is_dir}
use Rattle.dir_format.specs.Grammar.{dir_bytes}
use Rattle.dir_format.proofs.ContentOf.{content_is, dir_tells}
use Rattle.headline_laws.proofs.Boxes.Levels.{IsAbove, bytes_back, from_zero, level, level_other, level_with, none_above, share, share_named}

-- ---- what is found ----

pub found_passes : {X : Type 0} (p : X → Bool) (xs : List X) (x : X) → find p xs ≡ Some x → p x ≡ true
found_passes p [] x e = absurd (none_some x e)
found_passes p (y ∷ ys) x e = over (p y) refl (found_passes p ys x) e
  where
    over : (b : Bool) → p y ≡ b → (find p ys ≡ Some x → p x ≡ true) → cond b (Some y) (find p ys) ≡ Some x → p x ≡ true
    over true k later q = subst (λ z. p z ≡ true) (some_same y x q) k
    over false k later q = later q

pub all_found : {X : Type 0} (P : X → Type 0) (p : X → Bool) (xs : List X) (x : X) → AllByRecursion P xs → find p xs ≡ Some x → P x
all_found P p [] x k e = absurd (none_some x e)
all_found P p (y ∷ ys) x k e = over (p y) (all_found P p ys x k.1) e
  where
    over : (b : Bool) → (find p ys ≡ Some x → P x) → cond b (Some y) (find p ys) ≡ Some x → P x
    over true later q = subst P (some_same y x q) k.0
    over false later q = later q

-- ---- names ----

-- a plain name stays what it is
pub plain_whole : (name : List ℕ) → list_all is_name_byte name ≡ true → plain_name name ≡ name
plain_whole [] e = refl
plain_whole (c ∷ cs) e = ap (λ (b : Bool). cond b [] (c ∷ plain_name cs)) (no_mark c (and_first (is_name_byte c) (list_all is_name_byte cs) e)) ∙ ap (λ (l : List ℕ). c ∷ l) (plain_whole cs (and_second (is_name_byte c) (list_all is_name_byte cs) e))
  where
    no_mark : (b : ℕ) → is_name_byte b ≡ true → (b == 64) ≡ false
    no_mark b k = grind (arith, nat_tests)

-- what stands after the mark is left out
pub plain_marked : (name rest : List ℕ) → list_all is_name_byte name ≡ true → plain_name (name ++ codes "@" ++ rest) ≡ name
plain_marked [] rest e = refl
plain_marked (c ∷ cs) rest e = ap (λ (b : Bool). cond b [] (c ∷ plain_name (cs ++ codes "@" ++ rest))) (no_mark c (and_first (is_name_byte c) (list_all is_name_byte cs) e)) ∙ ap (λ (l : List ℕ). c ∷ l) (plain_marked cs rest (and_second (is_name_byte c) (list_all is_name_byte cs) e))
  where
    no_mark : (b : ℕ) → is_name_byte b ≡ true → (b == 64) ≡ false
    no_mark b k = grind (arith, nat_tests)

last_of_five : (a b d e f : Bool) → (a && (b && (d && (e && f)))) ≡ true → f ≡ true
last_of_five a b d e f h = and_second e f (and_second d (e && f) (and_second b (d && (e && f)) (and_second a (b && (d && (e && f))) h)))

pub name_bytes : (name : List ℕ) → is_name name ≡ true → list_all is_name_byte name ≡ true
name_bytes name e = last_of_five (nat_lt 0 (length name)) (nat_le (length name) 60) (not (bytes_eq name (codes "."))) (not (bytes_eq name (codes ".."))) (list_all is_name_byte name) e

-- a component means an entry whose name is its plain one
pub meant_plain : (component : List ℕ) (d : Entry) → is_name d.name ≡ true → is_meant component d ≡ true → plain_name component ≡ d.name
meant_plain component d named e = over (or_either (bytes_eq d.name component) (bytes_eq (numbered_name d) component) (and_second (is_live d) _ e))
  where
    over : (bytes_eq d.name component ≡ true) ⊎ (bytes_eq (numbered_name d) component ≡ true) → plain_name component ≡ d.name
    over (inl k) = ap plain_name (sym ((bytes_eq-Decides d.name component).0 k)) ∙ plain_whole d.name (name_bytes d.name named)
    over (inr k) = ap plain_name (sym ((bytes_eq-Decides (numbered_name d) component).0 k)) ∙ plain_marked d.name (decimal d.ino) (name_bytes d.name named)

-- ---- messages of a directory ----

-- how far a message has come that was put in, or not, and taken out, or not
abbrev pub rank : (put taken : Bool) → ℕ
rank put taken = cond taken 2 (cond put 1 0)

pub rank_none : (put taken : Bool) → rank put taken ≡ 0 → (put ≡ false) × (taken ≡ false)
rank_none true true e = absurd (omega arith)
rank_none true false e = absurd (omega arith)
rank_none false true e = absurd (omega arith)
rank_none false false e = (refl, refl)

-- `Put` says that a message of this name was put in under this number, and `Saw` that a vector covers all versions of the file of a number
module _ (Put : List ℕ → ℕ → Type 0) (Saw : ℕ → List ℕ → Type 0) where
  -- An entry of a message: it was put in, and it has been live once; its removal saw its file.
  pub record Good (d : Entry) : Type 0 where
    pub put : Put d.name d.ino
    pub some : 1 ≤ d.count
    pub few : d.count ≤ 2
    pub saw : d.count ≡ 2 → Saw d.ino d.seen

  abbrev pub GoodIfMessage : Entry → Type 0
  GoodIfMessage d = is_message d.name ≡ true → Good d

  -- The messages of a directory into which those were put, and from which those were taken, that pass.
  pub record Box (put taken : List ℕ → Bool) (ds : List Entry) : Type 0 where
    pub each : AllByRecursion GoodIfMessage ds
    pub levels : (name : List ℕ) → is_message name ≡ true → level ds name ≡ rank (put name) (taken name)

  -- the same by other words
  pub box_same : (p q s t : List ℕ → Bool) (ds : List Entry) → ((name : List ℕ) → p name ≡ s name) → ((name : List ℕ) → q name ≡ t name) → Box p q ds → Box s t ds
  box_same p q s t ds same also b = record { each = b.each; levels = λ name m. b.levels name m ∙ (ap (λ (x : Bool). rank x (q name)) (same name) ∙ ap (λ (x : Bool). rank (s name) x) (also name)) }

  module _ (put taken : List ℕ → Bool) (ds : List Entry) (box : Box put taken ds) where
    -- an entry of a message that is live has been live once alone
    live_once : (d : Entry) → is_live d ≡ true → Good d → d.count ≡ 1
    live_once d live good = let some : 1 ≤ d.count = good.some in let few : d.count ≤ 2 = good.few in grind (arith, nat_tests)

    -- an entry that is no message's changes none
    pub other_box : (d : Entry) → is_message d.name ≡ false → Box put taken (with_entry d ds)
    other_box d other = record {
      each = all_with GoodIfMessage d ds (λ m. absurd (true_false (sym m ∙ other))) box.each;
      levels = λ name m. level_other name d (apart name m) ds ∙ box.levels name m;
    }
      where
        apart : (name : List ℕ) → is_message name ≡ true → bytes_eq d.name name ≡ false
        apart name m = false_unless (bytes_eq d.name name) (λ k. true_false (sym m ∙ (ap is_message (sym ((bytes_eq-Decides d.name name).0 k)) ∙ other)))

    -- ---- an insert ----

    abbrev pub with_this : List ℕ → (List ℕ → Bool) → List ℕ → Bool
    with_this name p n = bytes_eq n name || p n

    module _ (name : List ℕ) (ino : ℕ) (kind : Kind) where
      abbrev new : Entry
      new = live_entry name ino kind 1

      -- a message that is new is put in
      message_box : is_message name ≡ true → Put name ino → level ds name ≡ 0 → Box (with_this name put) taken (with_entry new ds)
      message_box m was none = record {
        each = all_with GoodIfMessage new ds (λ k. record { put = was; some = omega arith; few = omega arith; saw = λ e. absurd (omega arith) }) box.each;
        levels = λ n k. level_with n new ds (none_above new ds none) ∙ over n k (bytes_eq n name) refl;
      }
        where
          nothing : (put name ≡ false) × (taken name ≡ false)
          nothing = rank_none (put name) (taken name) (sym (box.levels name m) ∙ none)

          over : (n : List ℕ) → is_message n ≡ true → (b : Bool) → bytes_eq n name ≡ b → max (share new n) (level ds n) ≡ rank (b || put n) (taken n)
          over n k true q = subst (λ (y : List ℕ). max (share new y) (level ds y) ≡ rank true (taken y)) (sym ((bytes_eq-Decides n name).0 q))
              (ap (λ (s : ℕ). max s (level ds name)) (share_named new name refl) ∙ (ap (λ (l : ℕ). max 1 l) none ∙ ap (λ (t : Bool). rank true t) (sym nothing.1)))
          over n k false q = ap (λ (b : Bool). max (cond b 1 0) (level ds n)) (bytes_back name n ∙ q) ∙ (from_zero (level ds n) ∙ box.levels n k)

    -- ---- a removal ----

    module _ (name : List ℕ) (ino : ℕ) (seen : List ℕ) (d : Entry) (found : pair_in name ino ds ≡ Some d) (live : is_live d ≡ true) where
      abbrev gone : Entry
      gone = record { name = d.name; ino = d.ino; kind = d.kind; count = suc d.count; seen = seen }

      name_is : d.name ≡ name
      name_is = (bytes_eq-Decides d.name name).0 (and_first (bytes_eq d.name name) (d.ino == ino) (found_passes (is_pair name ino) ds d found))

      ino_is : d.ino ≡ ino
      ino_is = equal d.ino ino (and_second (bytes_eq d.name name) (d.ino == ino) (found_passes (is_pair name ino) ds d found))

      -- a message that is live is taken out
      gone_box : is_message name ≡ true → (Put name ino → Saw ino seen) → Box put (with_this name taken) (with_entry gone ds)
      gone_box m sees = record {
        each = all_with GoodIfMessage gone ds (λ k. record { put = good.put; some = omega arith; few = omega (arith, once); saw = λ e. subst (λ (i : ℕ). Saw i seen) (sym ino_is) (sees (subst (λ (x : List ℕ). Put x ino) name_is (subst (λ (i : ℕ). Put d.name i) ino_is good.put))) }) box.each;
        levels = λ n k. level_with n gone ds above ∙ over n k (bytes_eq n name) refl;
      }
        where
          good : Good d
          good = all_found GoodIfMessage (is_pair name ino) ds d box.each found (ap is_message name_is ∙ m)

          once : d.count ≡ 1
          once = live_once d live good

          above : IsAbove gone ds
          above = all_weaker (λ e g is. low e (g (ap is_message (sym (same_name gone e is) ∙ name_is) ∙ m))) ds box.each
            where
              low : (e : Entry) → Good e → e.count ≤ suc d.count
              low e g = let few : e.count ≤ 2 = g.few in omega (arith, once)

          twice : (p t : Bool) (l : ℕ) → l ≡ rank p t → max 2 l ≡ 2
          twice true true l e = omega (arith, e)
          twice true false l e = omega (arith, e)
          twice false true l e = omega (arith, e)
          twice false false l e = omega (arith, e)

          over : (n : List ℕ) → is_message n ≡ true → (b : Bool) → bytes_eq n name ≡ b → max (share gone n) (level ds n) ≡ rank (put n) (b || taken n)
          over n k true q = ap (λ (s : ℕ). max s (level ds n)) (share_named gone n (name_is ∙ sym ((bytes_eq-Decides n name).0 q)) ∙ ap suc once) ∙ twice (put n) (taken n) (level ds n) (box.levels n k)
          over n k false q = ap (λ (b : Bool). max (cond b (suc d.count) 0) (level ds n)) (ap (λ (x : List ℕ). bytes_eq x n) name_is ∙ (bytes_back name n ∙ q)) ∙ (from_zero (level ds n) ∙ box.levels n k)

  -- ---- what an operation leaves of a directory ----

  abbrev pub put_after : Op → (List ℕ → Bool) → List ℕ → Bool
  put_after (op.Insert name ino kind) put n = bytes_eq n name || put n
  put_after _ put n = put n

  abbrev pub taken_after : Op → (List ℕ → Bool) → List ℕ → Bool
  taken_after (op.Remove name ino) taken n = bytes_eq n name || taken n
  taken_after _ taken n = taken n

  -- a directory after an operation that isn't refused
  abbrev Leaves : (put taken : List ℕ → Bool) → List Entry → Option DirEffect → Type 0
  Leaves put taken ds None = Unit {0}
  Leaves put taken ds (Some d) = is_refusal d.outcome ≡ false → d.spent ≡ false → Box put taken (cond d.counts d.entries ds)

  -- what an operation may do where the messages are known
  abbrev pub MayBe : List Entry → Op → List ℕ → Type 0
  MayBe ds (op.Insert name ino kind) seen = is_message name ≡ true → Put name ino × (level ds name ≡ 0)
  MayBe ds (op.Remove name ino) seen = is_message name ≡ true → Put name ino → Saw ino seen
  MayBe ds (op.Rename component name) seen = (is_message name ≡ false) × (is_message (plain_name component) ≡ false)
  MayBe ds (op.Write at bytes) seen = ⊥
  MayBe ds (op.Cut len) seen = ⊥
  MayBe ds op.Mend seen = ⊥
  MayBe ds _ seen = Unit {0}

  module _ (put taken : List ℕ → Bool) (ds : List Entry) (dir : IsDir ds) (box : Box put taken ds) where
    becomes_box : (p q : List ℕ → Bool) (after : List Entry) (spent : Bool) → (spent ≡ false → Box p q after) → Leaves p q ds (Some (becomes ds after spent))
    becomes_box p q after spent new = over (nat_lt directory_bytes_max (size_of after))
      where
        over : (b : Bool) → Leaves p q ds (Some (cond {A = DirEffect} b (record { outcome = outcome.No refusal.TooLong; entries = ds; counts = false; spent = false }) (record { outcome = outcome.Done; entries = after; counts = true; spent = spent })))
        over true r s = absurd (true_false r)
        over false r s = new s

    probe_left : (name : List ℕ) (o : Option Entry) → Leaves put taken ds (Some (probe_beside name ds o))
    probe_left name None = over (nat_lt directory_bytes_max (size_of ds + (length name + 8)))
      where
        over : (b : Bool) → Leaves put taken ds (Some (cond {A = DirEffect} b (record { outcome = outcome.No refusal.TooLong; entries = ds; counts = false; spent = false }) (record { outcome = outcome.Done; entries = ds; counts = false; spent = false })))
        over true r s = box
        over false r s = box
    probe_left name (Some d) = λ r s. box

    find_left : (component : List ℕ) (x : LookResult) → Leaves put taken ds (Some (find_by component ds x))
    find_left component (look.Found ino kind) = λ r s. box
    find_left component look.Absent = λ r s. box
    find_left component (look.Ambiguous a b) = λ r s. box

    empty_left : (shown : List (List ℕ)) → Leaves put taken ds (Some (empty_among ds shown))
    empty_left [] = λ r s. box
    empty_left (name ∷ others) = λ r s. box

    -- an entry of another name leaves the box as it is, where no message passes by the name
    passed_by : (p : List ℕ → Bool) (name : List ℕ) (es : List Entry) → is_message name ≡ false → Box p taken es → Box (λ n. bytes_eq n name || p n) taken es
    passed_by p name es other b = record { each = b.each; levels = λ n k. b.levels n k ∙ ap (λ (x : Bool). rank (x || p n) (taken n)) (sym (false_unless (bytes_eq n name) (λ e. true_false (sym k ∙ (ap is_message ((bytes_eq-Decides n name).0 e) ∙ other))))) }

    taken_by : (q : List ℕ → Bool) (name : List ℕ) (es : List Entry) → is_message name ≡ false → Box put q es → Box put (λ n. bytes_eq n name || q n) es
    taken_by q name es other b = record { each = b.each; levels = λ n k. b.levels n k ∙ ap (λ (x : Bool). rank (put n) (x || q n)) (sym (false_unless (bytes_eq n name) (λ e. true_false (sym k ∙ (ap is_message ((bytes_eq-Decides n name).0 e) ∙ other))))) }

    insert_left : (name : List ℕ) (ino : ℕ) (kind : Kind) (o : Option Entry) → (is_message name ≡ true → Put name ino × (level ds name ≡ 0)) → Leaves (λ n. bytes_eq n name || put n) taken ds (insert_beside name ino kind ds o)
    insert_left name ino kind (Some d) may = tt
    insert_left name ino kind None may = becomes_box (λ n. bytes_eq n name || put n) taken (with_entry (live_entry name ino kind 1) ds) false (λ z. over (is_message name) refl)
      where
        over : (b : Bool) → is_message name ≡ b → Box (λ n. bytes_eq n name || put n) taken (with_entry (live_entry name ino kind 1) ds)
        over true m = message_box put taken ds box name ino kind m (may m).0 (may m).1
        over false m = passed_by put name (with_entry (live_entry name ino kind 1) ds) m (other_box put taken ds box (live_entry name ino kind 1) m)

    remove_left : (name : List ℕ) (ino : ℕ) (seen : List ℕ) → (is_message name ≡ true → Put name ino → Saw ino seen) → Leaves put (λ n. bytes_eq n name || taken n) ds (remove_entry seen ds (live_one (pair_in name ino ds)))
    remove_left name ino seen may = by (pair_in name ino ds) refl
      where
        by : (o : Option Entry) → pair_in name ino ds ≡ o → Leaves put (λ n. bytes_eq n name || taken n) ds (remove_entry seen ds (live_one o))
        by None found = tt
        by (Some d) found = at (is_live d) refl
          where
            -- where its count isn't the greatest
            gone_is : (b : Bool) → b ≡ false → Box put (λ n. bytes_eq n name || taken n) (with_entry (record { name = d.name; ino = d.ino; kind = d.kind; count = suc d.count; seen = seen }) ds) →
                Box put (λ n. bytes_eq n name || taken n) (with_entry (cond b d (record { name = d.name; ino = d.ino; kind = d.kind; count = suc d.count; seen = seen })) ds)
            gone_is true z k = absurd (true_false z)
            gone_is false z k = k

            over : is_live d ≡ true → (b : Bool) → is_message name ≡ b → Box put (λ n. bytes_eq n name || taken n) (with_entry (record { name = d.name; ino = d.ino; kind = d.kind; count = suc d.count; seen = seen }) ds)
            over l true m = gone_box put taken ds box name ino seen d found l m (may m)
            over l false m = taken_by taken name (with_entry (record { name = d.name; ino = d.ino; kind = d.kind; count = suc d.count; seen = seen }) ds) m (other_box put taken ds box (record { name = d.name; ino = d.ino; kind = d.kind; count = suc d.count; seen = seen })
                (ap is_message ((bytes_eq-Decides d.name name).0 (and_first (bytes_eq d.name name) (d.ino == ino) (found_passes (is_pair name ino) ds d found))) ∙ m))

            at : (b : Bool) → is_live d ≡ b → Leaves put (λ n. bytes_eq n name || taken n) ds (remove_entry seen ds (cond b (Some d) None))
            at true l = becomes_box put (λ n. bytes_eq n name || taken n) (with_entry (removed d seen) ds) (is_spent d) (λ z. gone_is (is_spent d) z (over l (is_message name) refl))
            at false l = tt

    rename_left : (component name : List ℕ) → is_message name ≡ false → is_message (plain_name component) ≡ false → Leaves put taken ds (Some (rename_by component name ds (lookup ds component)))
    rename_left component name new old = by (lookup ds component)
      where
        named : (d : Entry) → find (is_meant component) ds ≡ Some d → is_message d.name ≡ false
        named d found = ap is_message (sym (meant_plain component d (all_found IsEntry (is_meant component) ds d dir.entries found).name (found_passes (is_meant component) ds d found))) ∙ old

        gone_name : (b : Bool) (d : Entry) → (cond b d (record { name = d.name; ino = d.ino; kind = d.kind; count = suc d.count; seen = nothing_seen })).name ≡ d.name
        gone_name true d = refl
        gone_name false d = refl

        moved_name : (d : Entry) (o : Option Entry) → (moved d name o).name ≡ name
        moved_name d None = refl
        moved_name d (Some e) = refl

        beside : (d : Entry) → is_message d.name ≡ false → (o : Option Entry) → Leaves put taken ds (Some (rename_beside d name ds o))
        beside d other None = becomes_box put taken (with_entry (moved d name (pair_in name d.ino ds)) (with_entry (removed d nothing_seen) ds)) (is_spent d) (λ z. other_box put taken (with_entry (removed d nothing_seen) ds)
            (other_box put taken ds box (removed d nothing_seen) (ap is_message (gone_name (is_spent d) d) ∙ other)) (moved d name (pair_in name d.ino ds)) (ap is_message (moved_name d (pair_in name d.ino ds)) ∙ new))
        beside d other (Some e) = λ r s. box

        entry : (o : Option Entry) → find (is_meant component) ds ≡ o → Leaves put taken ds (Some (rename_entry component name ds o))
        entry None found = λ r s. box
        entry (Some d) found = beside d (named d found) (find (has_name name) ds)

        by : (x : LookResult) → Leaves put taken ds (Some (rename_by component name ds x))
        by (look.Found ino kind) = entry (find (is_meant component) ds) refl
        by look.Absent = λ r s. box
        by (look.Ambiguous a b) = λ r s. box

    dir_left : (o : Op) (seen : List ℕ) → MayBe ds o seen → Leaves (put_after o put) (taken_after o taken) ds (dir_effect o seen ds)
    dir_left (op.Probe name) seen may = probe_left name (find (has_name name) ds)
    dir_left (op.Find component) seen may = find_left component (lookup ds component)
    dir_left (op.Insert name ino kind) seen may = insert_left name ino kind (pair_in name ino ds) may
    dir_left (op.Remove name ino) seen may = remove_left name ino seen may
    dir_left (op.Rename component name) seen may = rename_left component name may.0 may.1
    dir_left op.Empty seen may = empty_left (shown_names ds)
    dir_left op.Mend seen may = tt
    dir_left op.Commit seen may = tt
    dir_left op.Abort seen may = tt
    dir_left (op.Read at len) seen may = tt
    dir_left (op.Write at bytes) seen may = tt
    dir_left (op.Cut len) seen may = tt

  -- ---- what an operation leaves of a content ----

  module _ (put taken : List ℕ → Bool) (content : List ℕ) (dir : IsDir (entries_of content)) (box : Box put taken (entries_of content)) where
    in_box : (p q : List ℕ → Bool) (o : Option DirEffect) → Leaves p q (entries_of content) o → (e : Effect) → in_directory content o ≡ Some e → is_refusal e.result ≡ false → e.spent ≡ false → Box p q (entries_of e.content)
    in_box p q None k e is = absurd (none_some e is)
    in_box p q (Some d) k e is = over (is_dir d.entries) refl is
      where
        left : is_dir d.entries ≡ true → (b : Bool) → Box p q (cond b d.entries (entries_of content)) → Box p q (entries_of (cond b (dir_bytes d.entries) content))
        left good true z = subst (Box p q) (sym (content_is (dir_bytes d.entries) d.entries (record { spelled = refl; fits = dir_tells d.entries good }))) z
        left good false z = z

        over : (b : Bool) → is_dir d.entries ≡ b → cond b (Some (on_directory content d)) None ≡ Some e → is_refusal e.result ≡ false → e.spent ≡ false → Box p q (entries_of e.content)
        over true good j = subst (λ (x : Effect). is_refusal x.result ≡ false → x.spent ≡ false → Box p q (entries_of x.content)) (some_same (on_directory content d) e j) (λ r s. left good d.counts (k r s))
        over false good j = absurd (none_some e j)

    worded_box : (o : Op) → MayBe (entries_of content) o [] → (e : Effect) → cond (is_worded o) (in_directory content (dir_effect o [] (entries_of content))) None ≡ Some e → is_refusal e.result ≡ false → e.spent ≡ false →
        Box (put_after o put) (taken_after o taken) (entries_of e.content)
    worded_box o may e is = over (is_worded o) is
      where
        over : (b : Bool) → cond b (in_directory content (dir_effect o [] (entries_of content))) None ≡ Some e → is_refusal e.result ≡ false → e.spent ≡ false → Box (put_after o put) (taken_after o taken) (entries_of e.content)
        over true j = in_box (put_after o put) (taken_after o taken) (dir_effect o [] (entries_of content)) (dir_left put taken (entries_of content) dir box o [] may) e j
        over false j = absurd (none_some e j)

    -- an operation whose words say all
    pub as_box : (o : Op) → MayBe (entries_of content) o [] → (e : Effect) → effect (As o) content ≡ Some e → is_refusal e.result ≡ false → e.spent ≡ false → Box (put_after o put) (taken_after o taken) (entries_of e.content)
    as_box (op.Read at len) may e is r s = subst (λ (x : Effect). Box put taken (entries_of x.content)) (some_same _ e is) box
    as_box (op.Write at bytes) may e is r s = absurd may
    as_box (op.Cut len) may e is r s = absurd may
    as_box (op.Remove name ino) may e is r s = absurd (none_some e is)
    as_box op.Mend may e is r s = absurd may
    as_box op.Commit may e is r s = absurd (none_some e is)
    as_box op.Abort may e is r s = absurd (none_some e is)
    as_box (op.Probe name) may e is r s = worded_box (op.Probe name) may e is r s
    as_box (op.Find component) may e is r s = worded_box (op.Find component) may e is r s
    as_box (op.Insert name ino kind) may e is r s = worded_box (op.Insert name ino kind) may e is r s
    as_box (op.Rename component name) may e is r s = worded_box (op.Rename component name) may e is r s
    as_box op.Empty may e is r s = worded_box op.Empty may e is r s

    -- a removal that sees this vector
    pub removes_box : (name : List ℕ) (ino : ℕ) (seen : List ℕ) → (is_message name ≡ true → Put name ino → Saw ino seen) → (e : Effect) → effect (Removes name ino seen) content ≡ Some e → is_refusal e.result ≡ false → e.spent ≡ false →
        Box put (λ n. bytes_eq n name || taken n) (entries_of e.content)
    removes_box name ino seen may e is r s = in_box put (λ n. bytes_eq n name || taken n) (dir_effect (op.Remove name ino) seen (entries_of content)) (dir_left put taken (entries_of content) dir box (op.Remove name ino) seen may) e is r s

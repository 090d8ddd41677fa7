-- A call that removes a name has seen the version on which it has the file open.
use Rattle.std.proofs.Common.{◌≡◌, ℕ, Bool, true, false, cond, List, [], ◌∷◌, ◌++◌, Option, Some, None, refl, sym, ◌∙◌, ap, subst, ◌⊎◌, inl, inr, arith}
use Rattle.std.proofs.lemmas.Bool.Decides.{nat_tests}
use Rattle.std.specs.List.{find}
use Rattle.std.specs.List.{AllByRecursion}
use Rattle.role_steps.proofs.of_plain_facts.Options.{some_same}
use Rattle.role_steps.proofs.of_plain_facts.Tests.{true_false}
use Rattle.locus_ids.specs.declared.config.Config.{Config}
use Rattle.locus_ids.specs.declared.ids.CallId.{CallId}
use Rattle.locus_ids.specs.declared.ids.EpochId.{EpochId}
use Rattle.locus_ids.specs.declared.ids.FileId.{FileId}
use Rattle.locus_ids.specs.declared.ids.Mode.{Mode}
use Rattle.locus_ids.specs.declared.ids.Mode.TheVariants as mode
use Rattle.locus_ids.specs.declared.ids.Serial.{Serial}
use Rattle.locus_ids.specs.declared.ids.Stamp.{Stamp}
use Rattle.locus_ids.specs.declared.refusal.Refusal.TheVariants as refusal
use Rattle.commit_graph.specs.Grants.{is_read}
use Rattle.commit_graph.specs.Versions.{same_file}
use Rattle.trace_book.specs.declared.call.OpenMode.TheVariants as how
use Rattle.trace_book.specs.declared.descriptor.Beginning.TheVariants as begins
use Rattle.trace_book.specs.declared.reply.Reply.TheVariants as reply
use Rattle.call_rules.specs.declared.answer.Answer.{Answer}
use Rattle.call_rules.specs.declared.answer.Answer.TheVariants as answer
use Rattle.call_rules.specs.declared.want.Want.{Want}
use Rattle.call_rules.specs.declared.want.Want.TheVariants as want
use Rattle.the_run.specs.Kept.{Among}
use Rattle.the_run.specs.Worlds.{Line}
use Rattle.tree_model.specs.Calls.{granted_to}
use Rattle.tree_model.specs.declared.instance.Instance.{Instance}
use Rattle.tree_laws.specs.of_lawful_trace.Progress.{Answers, granted_answer}
use Rattle.tree_laws.specs.of_lawful_trace.Tables.{begun}
use Rattle.tree_laws.specs.of_lawful_trace.TreeRows.{IsCallIn, is_open_of}
use Rattle.tree_laws.specs.Printed.{entries}
use Rattle.tree_laws.specs.Calls.{Asks, log, script}
use Rattle.tree_laws.specs.Following.{IsFollowed}
use Rattle.tree_laws.specs.Holding.{has_instances}
use Rattle.tree_laws.specs.Instances.{instance_now}
use Rattle.tree_laws.proofs.Awaiting.{OpensIt}
use Rattle.tree_laws.specs.Orders.Alone.{AreAlone, MayStandBy}
use Rattle.tree_laws.proofs.Orders.Standing.{same_file_eq}
use Rattle.tree_laws.proofs.Orders.ProcessBegun.{comes_from}
use Rattle.tree_laws.proofs.Orders.ProcessGranting.{GrantIs, granted_is}
use Rattle.tree_laws.proofs.Orders.ProcessOpen.{OpenAs, granted_open}
use Rattle.tree_laws.proofs.Orders.ProcessUnreleased.{unreleased}
use Rattle.store_laws.proofs.OneTree.RemovePlaced.{GrantedSo, Taken, granted_placed, taken_so}
use Rattle.store_laws.proofs.OneTree.RemoveScripts.{IsOr}

-- ---- one open instance of a file that is written ----

alone_first : (x : Instance) (xs : List Instance) (y : Instance) → AllByRecursion (MayStandBy x) xs → Among y xs → same_file x.grant.file y.grant.file ≡ true → (is_read x.grant.mode ≡ true) × (is_read y.grant.mode ≡ true)
alone_first x [] y all m e = absurd m
alone_first x (z ∷ zs) y all (inl is) e = (let r : (is_read x.grant.mode ≡ true) × (is_read z.grant.mode ≡ true) = all.0 (subst (λ (v : Instance). same_file x.grant.file v.grant.file ≡ true) is e) in (r.0, subst (λ (v : Instance). is_read v.grant.mode ≡ true) (sym is) r.1))
alone_first x (z ∷ zs) y all (inr m) e = alone_first x zs y all.1 m e

file_own : (f : FileId) → same_file f f ≡ true
file_own f = grind (arith, nat_tests)

-- of two of one file, of which one is written, each is the other
pub alone_one : (xs : List Instance) (x y : Instance) → AreAlone xs → Among x xs → Among y xs → x.grant.file ≡ y.grant.file → is_read x.grant.mode ≡ false → y ≡ x
alone_one [] x y alone a b e w = absurd a
alone_one (z ∷ zs) x y alone (inl a) (inl b) e w = b ∙ sym a
alone_one (z ∷ zs) x y alone (inl a) (inr b) e w = absurd (true_false (sym (subst (λ (v : Instance). is_read v.grant.mode ≡ true) (sym a) (alone_first z zs y alone.0 b (subst (λ (f : FileId). same_file f y.grant.file ≡ true) (sym (ap (λ (v : Instance). v.grant.file) (sym a) ∙ e)) (file_own y.grant.file))).0) ∙ w))
alone_one (z ∷ zs) x y alone (inr a) (inl b) e w = absurd (true_false (sym (alone_first z zs x alone.0 a (subst (λ (f : FileId). same_file f x.grant.file ≡ true) (e ∙ ap (λ (v : Instance). v.grant.file) b) (file_own x.grant.file))).1 ∙ w))
alone_one (z ∷ zs) x y alone (inr a) (inr b) e w = alone_one zs x y alone.1 a b e w

pub among_of : {A : Type 0} (p : A → Bool) (xs : List A) (x : A) → find p xs ≡ Some x → Among x xs × (p x ≡ true)
among_of p [] x e = absurd (none x e)
  where
    none : {A : Type 0} (x : A) → ◌≡◌ {A = Option A} None (Some x) → ⊥
    none x e = cc
among_of {A} p (y ∷ ys) x e = at (among_of p ys x) (p y) refl e
  where
    at : (find p ys ≡ Some x → Among x ys × (p x ≡ true)) → (b : Bool) → p y ≡ b → cond b (Some y) (find p ys) ≡ Some x → ((x ≡ y) ⊎ Among x ys) × (p x ≡ true)
    at later true q r = (inl (sym (some_same y x r)), ap p (sym (some_same y x r)) ∙ q)
    at later false q r = (inr (later r).0, (later r).1)

pub found_some : {A : Type 0} (p : A → Bool) (x : A) (xs : List A) → Among x xs → p x ≡ true → (y : A) × (find p xs ≡ Some y)
found_some p x [] m e = absurd m
found_some {A} p x (y ∷ ys) m e = at (λ (q : Among x ys). found_some p x ys q e) (p y) refl m
  where
    at : (Among x ys → (z : A) × (find p ys ≡ Some z)) → (b : Bool) → p y ≡ b → (x ≡ y) ⊎ Among x ys → (z : A) × (cond b (Some y) (find p ys) ≡ Some z)
    at later true f m = (y, refl)
    at later false f (inl i) = absurd (true_false (sym e ∙ (ap p i ∙ f)))
    at later false f (inr q) = later q

-- ---- what was granted ----

opens_it : (m : Mode) (i : Serial) (f : FileId) (stamp : Option Stamp) (stamps : List Stamp) → OpensIt (granted_answer m i f stamp stamps) i
opens_it mode.Mend i f stamp stamps = refl
opens_it mode.Read i f (Some stamp) stamps = refl
opens_it mode.Read i f None stamps = refl
opens_it mode.Write i f stamp stamps = refl
opens_it mode.Resolve i f stamp stamps = refl
opens_it mode.Make i f stamp stamps = refl

-- an open to write is granted to write, of that file
write_is : (m : Mode) (f g : FileId) → is_open_of m f (want.Open g how.Write) ≡ true → (m ≡ mode.Write) × (f ≡ g)
write_is mode.Write f g e = (refl, sym (same_file_eq g f e))
write_is mode.Read f g e = absurd (true_false (sym e))
write_is mode.Resolve f g e = absurd (true_false (sym e))
write_is mode.Mend f g e = absurd (true_false (sym e))
write_is mode.Make f g e = absurd (true_false (sym e))

not_given : (m : Mode) (f : FileId) → is_open_of m f (want.Give (reply.No refusal.NoStorage)) ≡ true → ⊥
not_given mode.Write f e = true_false (sym e)
not_given mode.Read f e = true_false (sym e)
not_given mode.Resolve f e = true_false (sym e)
not_given mode.Mend f e = true_false (sym e)
not_given mode.Make f e = true_false (sym e)

opened_number : (i j : Serial) (a b : ℕ) → answer.Opened i a ≡ answer.Opened j b → a ≡ b
opened_number i j a b e = cc

-- an instance that the call has, and was granted to write this file; and the number that the answer told
pub record IsWritten (c : Config) (t : List Line) (e : EpochId) (d : CallId) (i : Serial) (f : FileId) (number : ℕ) : Type 0 where
  pub us_is : i.us ≡ d.site
  pub granted : granted_to (entries t) e i ≡ Some d
  pub at : Instance
  pub found : instance_now c t e i ≡ Some at
  pub call_is : at.grant.call ≡ d
  pub serial_is : at.grant.inst ≡ i
  pub mode_is : at.grant.mode ≡ mode.Write
  pub file_is : at.grant.file ≡ f
  pub number_is : number ≡ f.ino

module _ (c : Config) (t : List Line) (h : IsFollowed c t) (e : EpochId) (d : CallId) (inside : IsCallIn (entries t) e d) (w : Want) (asks : Asks c t d w) (walks : (i : Serial) → begun (entries t) d ≡ Some (begins.Uses e i) → ⊥) where
  pub is_written : (i : Serial) (f : FileId) (number : ℕ) → has_instances c t d i ≡ true → ((xs ys : Answers) (a : Answer) → log t d ≡ xs ++ a ∷ ys → OpensIt a i → IsOr (script c (entries t) d None xs) (want.Open f how.Write) × (a ≡ answer.Opened i number)) → IsWritten c t e d i f number
  is_written i f number has each = over (comes_from c t h e d i inside has)
    where
      over : (granted_to (entries t) e i ≡ Some d) ⊎ (begun (entries t) d ≡ Some (begins.Uses e i)) → IsWritten c t e d i f number
      over (inr b) = absurd (walks i b)
      over (inl granted) = record {
        us_is = g.us_is;
        granted = granted;
        at = shown.at;
        found = shown.found;
        call_is = shown.call_is;
        serial_is = shown.serial_is;
        mode_is = shown.mode_is ∙ so.0;
        file_is = shown.file_is ∙ so.1;
        number_is = opened_number i i number f.ino (sym z.1 ∙ (k.fits.1.2 ∙ (ap (λ (m : Mode). granted_answer m i g.file k.fits.1.0 k.fits.1.1) so.0 ∙ ap (λ (x : FileId). answer.Opened i x.ino) so.1)));
      }
        where
          g : GrantIs t e i d
          g = granted_is c t h e i d granted

          shown : OpenAs c t e d i g.mode g.file g.place
          shown = granted_open c t h e d g.request i g.mode g.file g.stamp g.place g.was_granted (unreleased c t e d w i h inside asks has)

          k : Taken c t d (GrantedSo g.mode g.file i)
          k = taken_so c t d (GrantedSo g.mode g.file i) asks.nothing_waits (granted_placed c t h e d g.request i g.mode g.file g.stamp g.place g.was_granted)

          z : IsOr (script c (entries t) d None k.before) (want.Open f how.Write) × (k.given ≡ answer.Opened i number)
          z = each k.before k.after k.given k.log_is (subst (λ (a : Answer). OpensIt a i) (sym k.fits.1.2) (opens_it g.mode i g.file k.fits.1.0 k.fits.1.1))

          so : (g.mode ≡ mode.Write) × (g.file ≡ f)
          so = at z.0
            where
              at : IsOr (script c (entries t) d None k.before) (want.Open f how.Write) → (g.mode ≡ mode.Write) × (g.file ≡ f)
              at (inl q) = write_is g.mode g.file f (subst (λ (v : Want). is_open_of g.mode g.file v ≡ true) (sym k.script_is ∙ q) k.fits.0)
              at (inr q) = absurd (not_given g.mode g.file (subst (λ (v : Want). is_open_of g.mode g.file v ≡ true) (sym k.script_is ∙ q) k.fits.0))

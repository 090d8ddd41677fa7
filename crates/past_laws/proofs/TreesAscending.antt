-- The versions that are known in an epoch ascend, whatever record comes.
use Rattle.std.proofs.Common.{◌≡◌, Bool, true, false, cond, List, [], ◌∷◌, map, filter, refl, sym, ◌∙◌, ap, subst}
use Rattle.std.specs.Prelude.{fold}
use Rattle.locus_ids.specs.declared.config.Config.{Config}
use Rattle.locus_ids.specs.declared.ids.EpochId.{EpochId}
use Rattle.locus_ids.specs.declared.ids.Stamp.{Stamp}
use Rattle.trace_book.specs.Same.{same_epoch}
use Rattle.trace_book.specs.declared.record.Record.{Record}
use Rattle.trace_book.specs.declared.record.Record.TheVariants as says
use Rattle.tree_model.specs.Folds.{Trace}
use Rattle.tree_model.specs.Working.{list_of}
use Rattle.promises.specs.Past.{Past, Epoch, Instance, epoch_at, unformed, first_or, is_named, site_at}
use Rattle.promises.specs.After.{after, change, is_epoch, is_copy_below, with_epoch, with_all_known, answered, is_ender, close_answer, released}
use Rattle.past_laws.specs.Agreement.{Agrees, ascends}
use Rattle.past_laws.proofs.TreesAt.{formed_with}
use Rattle.past_laws.proofs.TreesKept.{IsBlind, told_kept}
use Rattle.past_laws.proofs.TreesKnown.{all_known_ascends}
use Rattle.past_laws.proofs.CallsOpened.{fold_epochs}

-- what stands of the first that passes stands of what becomes of it
first_stands : {X : Type 0} (P : X → Type 0) (d : X) (q p : X → Bool) (f : X → X) → ((x : X) → q (f x) ≡ q x) → ((x : X) → P x → P (f x)) → (xs : List X) → P (first_or d q xs) → P (first_or d q (change p f xs))
first_stands P d q p f same keeps [] h = h
first_stands {X} P d q p f same keeps (x ∷ xs) h = subst (λ (v : Bool). P (cond v (cond (p x) (f x) x) (first_or d q (change p f xs)))) (sym (seen (p x))) (over (q x) refl (first_stands P d q p f same keeps xs) h)
  where
    seen : (b : Bool) → q (cond b (f x) x) ≡ q x
    seen true = same x
    seen false = refl

    now : (b : Bool) → P x → P (cond b (f x) x)
    now true k = keeps x k
    now false k = k

    over : (a : Bool) → q x ≡ a → (P (first_or d q xs) → P (first_or d q (change p f xs))) → P (cond a x (first_or d q xs)) → P (cond a (cond (p x) (f x) x) (first_or d q (change p f xs)))
    over true e later k = now (p x) k
    over false e later k = later k

abbrev Ascends : Epoch → Type 0
Ascends t = ascends is_copy_below t.known ≡ true

-- an epoch that gets more versions
more_ascend : (e : EpochId) (which : Epoch → Bool) (f : Epoch → Epoch) → ((t : Epoch) → (f t).id ≡ t.id) → ((t : Epoch) → Ascends t → Ascends (f t)) → (ts : List Epoch) → Ascends (first_or (unformed e) (is_epoch e) ts) → Ascends (first_or (unformed e) (is_epoch e) (change which f ts))
more_ascend e which f ids keeps ts h = first_stands Ascends (unformed e) (is_epoch e) which f (λ t. ap (λ i. same_epoch i e) (ids t)) keeps ts h

-- records that leave what is known
still : (c : Config) (r : Record) (before : Trace) (p : Past) → Agrees c before p → IsBlind (λ (t : Epoch). t.known) r → (e : EpochId) → Ascends (epoch_at (after c r p) e)
still c r before p a blind e = ap (ascends is_copy_below) (told_kept (λ (t : Epoch). t.known) c r p blind e) ∙ a.trees.ascending e

pub ascending_step : (c : Config) (r : Record) (before : Trace) (p : Past) → Agrees c before p → (e : EpochId) → ascends is_copy_below (epoch_at (after c r p) e).known ≡ true
ascending_step c (says.Join z at m) before p a e = more_ascend e (is_epoch at) (λ (t : Epoch). record t { joined = z ∷ t.joined; known = with_all_known (site_at p z).held t.known }) (λ t. refl) (λ t k. all_known_ascends (site_at p z).held t.known k) (with_epoch at m p).epochs
    (ap (ascends is_copy_below) (formed_with (λ (u : Epoch). u.known) (λ u l. refl) at e m p) ∙ a.trees.ascending e)
ascending_step c (says.Release at i f stamp) before p a e = more_ascend e (is_epoch at) (released i f stamp) (λ t. refl) (λ t k. all_known_ascends (map (λ (s : Stamp). record { file = f; stamp = s }) (list_of stamp)) t.known k) (fold (λ (old : Past) (x : Instance). answered (is_ender (epoch_at p at) i) (close_answer stamp x) old) p (filter (is_named i) (epoch_at p at).opened)).epochs
    (ap (λ ts. ascends is_copy_below (first_or (unformed e) (is_epoch e) ts).known) (fold_epochs (is_ender (epoch_at p at) i) stamp (filter (is_named i) (epoch_at p at).opened) p) ∙ a.trees.ascending e)
ascending_step c (says.Stopped s w) before p a e = still c (says.Stopped s w) before p a (λ t ls. refl) e
ascending_step c (says.Leave s at) before p a e = still c (says.Leave s at) before p a (λ t ls. refl) e
ascending_step c (says.Start at g bs) before p a e = still c (says.Start at g bs) before p a (λ t gs. refl) e
ascending_step c (says.Accept s q id words) before p a e = still c (says.Accept s q id words) before p a (λ t w. refl) e
ascending_step c (says.Grant at id n i m f stamp ss) before p a e = still c (says.Grant at id n i m f stamp ss) before p a (λ t gs xs. refl) e
ascending_step c (says.Refuse at id n i m f why) before p a e = still c (says.Refuse at id n i m f why) before p a (λ t ms. refl) e
ascending_step c (says.Act at i n o result) before p a e = still c (says.Act at i n o result) before p a (λ t xs ms. refl) e
ascending_step c (says.Commit f s stamp ps content) before p a e = still c (says.Commit f s stamp ps content) before p a (λ t xs. refl) e
ascending_step c (says.Answer s q id r) before p a e = still c (says.Answer s q id r) before p a (λ t w fs. refl) e
ascending_step c r before p a e = still c r before p a tt e

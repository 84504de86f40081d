-- What is hidden, by the rule that says what is reached.
use Rattle.std.specs.Prelude.{◌≡◌, refl, Bool, true, false, not, ◌&&◌}
use Rattle.std.proofs.Common.{sym}
use Rattle.rules.specs.Octets.{ascii, same}
use Rattle.rules.specs.Lists.{one_of}
use Rattle.rules.specs.Tree.{Tree, frame, read_name}
use Rattle.rules.specs.Reader.{tree_read}
use Rattle.rules.specs.Listing.{reached_list}
use Rattle.rules.specs.Copy.{Asked, cpu_child, copied}
use Rattle.rules.specs.Derivation.{asked}
use Rattle.rules.specs.Withheld.{hidden}
use Rattle.rules.specs.Demands.{HiddenExactly}
use Rattle.rules.proofs.Laws.Tests.{never}
use Rattle.rules.proofs.Laws.Lists.{one_of_not, not_one_of}
use Rattle.rules.proofs.Laws.Listing.{reached_list_iff}
use Rattle.rules.proofs.Laws.Formed.{read_formed, conf_distinct, conf_small}

four : (c n f o u g : Bool) → (not c && not n && not (f && o) && not (u && g)) ≡ true → (c ≡ false) × (n ≡ false) × (f ≡ true → o ≡ false) × (u ≡ true → g ≡ false)
four false false false o false g e = (refl, refl, λ h. never true refl (sym h), λ h. never true refl (sym h))
four false false false o true false e = (refl, refl, λ h. never true refl (sym h), λ h. refl)
four false false true false false g e = (refl, refl, λ h. refl, λ h. never true refl (sym h))
four false false true false true false e = (refl, refl, λ h. refl, λ h. refl)
four false false false o true true e = never true refl (sym e)
four false false true false true true e = never true refl (sym e)
four false false true true u g e = never true refl (sym e)
four false true f o u g e = never true refl (sym e)
four true n f o u g e = never true refl (sym e)

back_four : (c n f o u g : Bool) → c ≡ false → n ≡ false → (f ≡ true → o ≡ false) → (u ≡ true → g ≡ false) → (not c && not n && not (f && o) && not (u && g)) ≡ true
back_four c n true o true g p q a b = rw (p, q, a refl, b refl)
back_four c n true o false g p q a b = rw (p, q, a refl)
back_four c n false o true g p q a b = rw (p, q, b refl)
back_four c n false o false g p q a b = rw (p, q)

-- WHAT IS HIDDEN
pub hidden_exactly : HiddenExactly
unfolding hidden
hidden_exactly r host q h c i n =
    let t : Tree = tree_read host in
    let a : Asked = asked (frame t) q in
    let w = reached_list_iff r t (read_formed host h) a.conf (conf_distinct (frame t) q c) (conf_small (frame t) q) i in (
      λ e. let k = four (copied r a t i) (read_name n) (r.refers n) (one_of i (reached_list r t a.conf)) (cpu_child (frame t) i) (same n (ascii "reg")) e in
          (k.0, k.1, λ f m. one_of_not i (reached_list r t a.conf) (k.2 f) (w.1 m), k.3),
      λ e. back_four (copied r a t i) (read_name n) (r.refers n) (one_of i (reached_list r t a.conf)) (cpu_child (frame t) i) (same n (ascii "reg"))
          e.0 e.1 (λ f. not_one_of i (reached_list r t a.conf) (λ m. e.2 f (w.0 m))) e.3,
    )

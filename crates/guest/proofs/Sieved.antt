-- Where the marks are closed upwards the walk copies what the sieve keeps; and where the structure stands does not matter to bytes.
use mathlib.Core.Path.{◌≡◌, refl, sym, ap, ◌∙◌}
use mathlib.Core.Bool.{Bool, true, false}
use mathlib.Core.List.{List, [], ◌∷◌}
use Prim.Native.Nat.{ℕ, zero, suc, ◌+◌, ◌-◌}
use native.Mathlib.Omega.{arith}
use native.Mathlib.Numerals.{add-one}
use native.Mathlib.Nat.{add-zero}
use borrow.Author.Tests.{ne_eqb}
use Rattle.rules.specs.Octets.{Bytes}
use Rattle.rules.specs.Blob.{Block, block_of}
use Rattle.rules.specs.Tokens.{Placed, tokens}
use Rattle.rules.specs.Events.{Event, opens, saying, events_of, events_in}
use Rattle.rules.specs.Tree.{Node, Tree, nodes_from, nodes_of}
use Rattle.rules.specs.Copy.{when, sieve}
use Rattle.rules.specs.Written.{Blocks, write_event, write_events}
use Rattle.rules.specs.declared.Token.{Token}
use Rattle.rules.specs.declared.Token.TheVariants.{Item, End, Cut}
use Rattle.rules.specs.declared.Kind.{Kind}
use Rattle.rules.specs.declared.Kind.TheVariants.{Begin, EndNode, Prop, Nop}
use Rattle.rules.proofs.Laws.Tests.{by_test, never}
use Rattle.rules.proofs.Laws.Nested.{Nested, finished, root, child, holds, shuts, events_pass, events_nested}
use Rattle.rules.specs.Laws.Sieve.{Upward}
use Rattle.guest.specs.Walked.{marked, copies, next_of, skipped_of, heard, sift, blank, copy_of, sieved, Ready}
use Rattle.guest.specs.Laid.{wrote}
use Rattle.guest.proofs.Sifts.{sift_said}

-- ---- the sieve

-- of the open nodes those that are not copied, s of them, stand innermost
abbrev Layered : (ℕ → Bool) → List ℕ → ℕ → Type 0
Layered k [] s = s ≡ 0
Layered k (i ∷ is) zero = (k i ≡ true) × Layered k is 0
Layered k (i ∷ is) (suc s) = (k i ≡ false) × Layered k is s

module _ (k : ℕ → Bool) where
  upward_next : (n : ℕ) (b : Node) (t : Tree) → Upward k n (b ∷ t) → Upward k (suc n) t
  upward_next n b t up j h y = let e : suc n + j ≡ n + suc j = omega arith in up (suc j) (omega arith) (rw (← e) y)

  -- a node opens among copied ones
  open_copied : (stack : List ℕ) (n place : ℕ) (name : Bytes) (es : List Event) → Layered k stack 0
      → ((s : ℕ) → Layered k (n ∷ stack) s → sieve k (n ∷ stack) (suc n) es ≡ sift k (suc n) s es)
      → sieve k stack n (opens place name ∷ es) ≡ sift k n 0 (opens place name ∷ es)
  unfolding sieve sift
  open_copied stack n place name es l ih = by_test (k n)
      (λ y. rw (y, add-one n, ih 0 (y, l)))
      (λ y. rw (y, add-one n, ih 1 (y, l)))

  pub sieve_sift : {ended : Bool} {stack : List ℕ} {next : ℕ} {es : List Event} → Nested ended stack next es → Upward k next (nodes_from stack next es)
      → (s : ℕ) → Layered k stack s → sieve k stack next es ≡ sift k next s es
  unfolding sieve sift nodes_from
  sieve_sift (finished z) up s l = refl
  sieve_sift (root {count = n} {place = p} {name = name} {es = es} z e t) up s l =
      rw l (open_copied [] n p name es refl (sieve_sift t (upward_next n _ (nodes_from (n ∷ []) (suc n) es) up)))
  sieve_sift (child {i = i} {count = n} {place = p} {is = is} {name = name} {es = es} e f g t) up zero l =
      open_copied (i ∷ is) n p name es l (sieve_sift t (upward_next n _ (nodes_from (n ∷ i ∷ is) (suc n) es) up))
  sieve_sift (child {i = i} {count = n} {place = p} {is = is} {name = name} {es = es} e f g t) up (suc s) l =
      let y : k n ≡ false = by_test (k n) (λ h. never (k i) (up 0 (omega arith) (rw add-zero h)) l.0) (λ h. h) in
      rw (y, ne_eqb (suc s) 0 (λ z. omega arith), add-one n, add-one (suc s), sieve_sift t (upward_next n _ (nodes_from (n ∷ i ∷ is) (suc n) es) up) (suc (suc s)) (y, l))
  sieve_sift (holds {es = es} e t) up zero l = rw (l.0, sieve_sift t up 0 l)
  sieve_sift (holds {es = es} e t) up (suc s) l = rw (l.0, ne_eqb (suc s) 0 (λ z. omega arith), sieve_sift t up (suc s) l)
  sieve_sift (shuts {es = es} t) up zero l = rw (l.0, sieve_sift t up 0 l.1)
  sieve_sift (shuts {es = es} t) up (suc s) l = let z : suc s - 1 ≡ s = omega arith in rw (l.0, ne_eqb (suc s) 0 (λ y. omega arith), z, sieve_sift t up s l.1)

-- ---- places

pub write_when : (w : Blocks) (c : Bool) (e : Event) (es : List Event) → write_events w (when c e es) ≡ write_events (wrote c w e) es
unfolding write_events
write_when w true e es = refl
write_when w false e es = refl

module _ (s t : Bytes) (p : ℕ) (k : ℕ → Bool) where
  wrote_place : (w : Blocks) (c : Bool) (at : ℕ) (kind : Kind) → wrote c w (heard (block_of p s t) at kind) ≡ wrote c w (heard (block_of 0 s t) at kind)
  unfolding write_event
  wrote_place w false at kind = refl
  wrote_place w true at (Begin len) = refl
  wrote_place w true at EndNode = refl
  wrote_place w true at (Prop len name value) = refl
  wrote_place w true at Nop = refl

  place_step : (at n u : ℕ) (kind : Kind) (next : ℕ) (w : Blocks) (es fs : List Event)
      → ((v : Blocks) (m x : ℕ) → write_events v (sift k m x es) ≡ write_events v (sift k m x fs))
      → write_events w (sift k n u (saying (block_of p s t) at (Item kind next) es)) ≡ write_events w (sift k n u (saying (block_of 0 s t) at (Item kind next) fs))
  place_step at n u kind next w es fs ih =
      let c : Bool = copies k n u kind in
      let a = sift_said k (block_of p s t) at n u kind next es in
      let b = sift_said k (block_of 0 s t) at n u kind next fs in
      ap (write_events w) a
      ∙ write_when w c (heard (block_of p s t) at kind) (sift k (next_of n kind) (skipped_of k n u kind) es)
      ∙ ap (λ (v : Blocks). write_events v (sift k (next_of n kind) (skipped_of k n u kind) es)) (wrote_place w c at kind)
      ∙ ih (wrote c w (heard (block_of 0 s t) at kind)) (next_of n kind) (skipped_of k n u kind)
      ∙ sym (write_when w c (heard (block_of 0 s t) at kind) (sift k (next_of n kind) (skipped_of k n u kind) fs))
      ∙ ap (write_events w) (sym b)

  place_token : (at n u : ℕ) (token : Token) (w : Blocks) (es fs : List Event)
      → ((v : Blocks) (m x : ℕ) → write_events v (sift k m x es) ≡ write_events v (sift k m x fs))
      → write_events w (sift k n u (saying (block_of p s t) at token es)) ≡ write_events w (sift k n u (saying (block_of 0 s t) at token fs))
  place_token at n u (Item kind next) w es fs ih = place_step at n u kind next w es fs ih
  place_token at n u End w es fs ih = ih w n u
  place_token at n u Cut w es fs ih = ih w n u

  place_same : (ts : List Placed) (w : Blocks) (n u : ℕ)
      → write_events w (sift k n u (events_of (block_of p s t) ts)) ≡ write_events w (sift k n u (events_of (block_of 0 s t) ts))
  unfolding events_of
  place_same [] w n u = refl
  place_same (q ∷ ts) w n u =
      place_token q.at n u q.token w (events_of (block_of p s t) ts) (events_of (block_of 0 s t) ts) (λ v m x. place_same ts v m x)

-- THE COPY IS THAT OF THE SIEVE
pub copy_sieved : (place : ℕ) (s t : Bytes) (ws : List ℕ) → Ready place s t ws → copy_of s t ws ≡ write_events blank (sieved place s t ws)
unfolding copy_of events_in nodes_of
copy_sieved place s t ws r =
    let b : Block = block_of place s t in
    sym (ap (write_events blank) (sieve_sift (marked ws) (events_nested (events_in b) (events_pass b r.shape)) r.upward 0 refl)
    ∙ place_same s t place (marked ws) (tokens s) blank 0 0)

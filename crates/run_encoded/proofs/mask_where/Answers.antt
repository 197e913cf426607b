-- `run_encoded::mask_where` meets its contract: the mask stands for the bits from k on.
use mathlib.Core.Path.{◌≡◌, sym, ap, ◌∙◌}
use Prim.Native.Nat.{ℕ, ◌-◌}
use native.Mathlib.Omega.{arith}
use lib.Pow.{pow_pos}
use lib.ListN.{length, drop}
use Rattle.rules.specs.Text.{digit}
use Rattle.run_encoded.specs.Terms.{mask_of}
use Rattle.run_encoded.proofs.Steps.{digit-le, mask-room, mask-more, mask-back, mask_end, told-digit}
use Rattle.run_encoded.proofs.mask_where.Goals as goal

pub loop-k-init : goal.loop-k-init
loop-k-init g c = record {
  few = pow_pos _;
  told = λ p h. sym (mask_end (λ b. digit (p b)) (λ b. digit-le (p b)) c.args.bits.now);
}

pub overflow_mul-mask : goal.overflow_mul-mask
overflow_mul-mask g c =
    record { fits = omega (arith, mask-room (length c.args.bits.now) c.loop-k.k c.loop-k.mask c.loop-k.invariant.few c.loop-k-test.true c.requires.few) }

pub overflow_add-mask : goal.overflow_add-mask
overflow_add-mask g c = record {
  fits = omega (
    arith,
    told-digit c.holds.result,
    digit-le c.holds.result,
    mask-room (length c.args.bits.now) c.loop-k.k c.loop-k.mask c.loop-k.invariant.few c.loop-k-test.true c.requires.few,
  );
}

pub loop-k-preserved : goal.loop-k-preserved
loop-k-preserved g c =
    let bits = c.args.bits.now in
    let l = c.loop-k in
    let byte = told-digit c.holds.result in
    record {
      few = mask-more (length bits) l.k l.mask _ l.invariant.few c.loop-k-test.true l.auto.k (omega (arith, byte, digit-le c.holds.result));
      told = λ p h.
          let told = h _ _ (c.type_inv.bits (l.k - 1)).fits c.holds.ensures in
          let back = mask-back (λ b. digit (p b)) (λ b. digit-le (p b)) bits l.k c.loop-k-test.true l.auto.k in
          omega (arith, l.invariant.told p h, byte, ap digit told, back);
    }

pub returns : goal.returns
returns g c p h =
    let bits = c.args.bits.now in
    let end : c.loop-k.k ≡ 0 = omega (arith, c.loop-k-test.false) in
    c.loop-k.invariant.told p h ∙ ap (λ (k : ℕ). mask_of (λ b. digit (p b)) (drop k bits)) end

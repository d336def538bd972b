-- Wrong variants of the arguments of aberration and of a row.
use Rattle.std.specs.Prelude.{Float}
use Rattle.double.specs.rules.Operations.{bits, ◌⊕◌, ◌⊗◌}
use Rattle.quantity.specs.rules.Angle.{rad}
use Rattle.aberr_args.specs.declared.Arguments.{Arguments}
use Rattle.aberr_args.specs.declared.Terms.{Terms}
use Rattle.aberr_args.specs.rules.Numbers.{n1·7534703}
use Rattle.aberr_args.specs.rules.Arguments.{arguments_of}
use Rattle.aberr_args.specs.rules.Row.{plus}

-- l3 with 628.3075894 for 628.3075849
abbrev pub another_argument : Float → Arguments
another_argument t =
    let g = arguments_of t in
    record {
      t = t;
      l2 = g.l2;
      l3 = rad (n1·7534703 ⊕ bits 0x4083a275f16e6cc5 ⊗ t);
      l4 = g.l4;
      l5 = g.l5;
      l6 = g.l6;
      l7 = g.l7;
      l8 = g.l8;
      l1 = g.l1;
      d = g.d;
      m1 = g.m1;
      f = g.f;
    }

-- 0·sin A for a sine that is not there
abbrev pub absent_term_added : Terms → Float → Float → Float → Float → Float
absent_term_added e t sine cosine v =
    v ⊕ (plus e.sine e.sine_t t ⊗ sine ⊕ plus e.cosine e.cosine_t t ⊗ cosine)

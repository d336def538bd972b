-- The eleven arguments at the century t.
use Rattle.std.specs.Prelude.{Float}
use Rattle.double.specs.rules.Operations.{◌⊕◌, ◌⊗◌}
use Rattle.quantity.specs.rules.Angle.{rad}
use Rattle.aberr_args.specs.declared.Arguments.{Arguments}
use Rattle.aberr_args.specs.rules.Numbers.{n3·1761467, n1021·3285546, n1·7534703, n628·3075849, n6·2034809, n334·0612431, n0·5995465}
use Rattle.aberr_args.specs.rules.Numbers.{n52·9690965, n0·8740168, n21·3299095, n5·4812939, n7·4781599, n5·3118863, n3·8133036, n3·8103444}
use Rattle.aberr_args.specs.rules.Numbers.{n8399·6847337, n5·1984667, n7771·3771486, n2·3555559, n8328·6914289, n1·6279052, n8433·4661601}

unfoldable pub arguments_of : Float → Arguments
arguments_of t =
    record {
      t = t;
      l2 = rad (n3·1761467 ⊕ n1021·3285546 ⊗ t);
      l3 = rad (n1·7534703 ⊕ n628·3075849 ⊗ t);
      l4 = rad (n6·2034809 ⊕ n334·0612431 ⊗ t);
      l5 = rad (n0·5995465 ⊕ n52·9690965 ⊗ t);
      l6 = rad (n0·8740168 ⊕ n21·3299095 ⊗ t);
      l7 = rad (n5·4812939 ⊕ n7·4781599 ⊗ t);
      l8 = rad (n5·3118863 ⊕ n3·8133036 ⊗ t);
      l1 = rad (n3·8103444 ⊕ n8399·6847337 ⊗ t);
      d = rad (n5·1984667 ⊕ n7771·3771486 ⊗ t);
      m1 = rad (n2·3555559 ⊕ n8328·6914289 ⊗ t);
      f = rad (n1·6279052 ⊕ n8433·4661601 ⊗ t);
    }

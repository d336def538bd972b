-- Each number of the rules is the decimal that its name spells, rounded once.
use Rattle.std.specs.Prelude.{refl, List, [], ◌∷◌, Float}
use Rattle.std.specs.Float.Ieee.{of_bits, round}
use Rattle.double.specs.rules.Table.{Row, ◌is◌, Agrees, decimal}
use Rattle.aberr_args.specs.rules.Numbers.{n3·1761467, n1021·3285546, n1·7534703, n628·3075849, n6·2034809, n334·0612431, n0·5995465}
use Rattle.aberr_args.specs.rules.Numbers.{n52·9690965, n0·8740168, n21·3299095, n5·4812939, n7·4781599, n5·3118863, n3·8133036, n3·8103444}
use Rattle.aberr_args.specs.rules.Numbers.{n8399·6847337, n5·1984667, n7771·3771486, n2·3555559, n8328·6914289, n1·6279052, n8433·4661601}

abbrev rows : List (Row Float)
rows =
    (n3·1761467 is decimal 31761467 7)
    ∷ (n1021·3285546 is decimal 10213285546 7)
    ∷ (n1·7534703 is decimal 17534703 7)
    ∷ (n628·3075849 is decimal 6283075849 7)
    ∷ (n6·2034809 is decimal 62034809 7)
    ∷ (n334·0612431 is decimal 3340612431 7)
    ∷ (n0·5995465 is decimal 5995465 7)
    ∷ (n52·9690965 is decimal 529690965 7)
    ∷ (n0·8740168 is decimal 8740168 7)
    ∷ (n21·3299095 is decimal 213299095 7)
    ∷ (n5·4812939 is decimal 54812939 7)
    ∷ (n7·4781599 is decimal 74781599 7)
    ∷ (n5·3118863 is decimal 53118863 7)
    ∷ (n3·8133036 is decimal 38133036 7)
    ∷ (n3·8103444 is decimal 38103444 7)
    ∷ (n8399·6847337 is decimal 83996847337 7)
    ∷ (n5·1984667 is decimal 51984667 7)
    ∷ (n7771·3771486 is decimal 77713771486 7)
    ∷ (n2·3555559 is decimal 23555559 7)
    ∷ (n8328·6914289 is decimal 83286914289 7)
    ∷ (n1·6279052 is decimal 16279052 7)
    ∷ (n8433·4661601 is decimal 84334661601 7)
    ∷ []

pub constants : Agrees rows
unfolding of_bits round
constants = refl

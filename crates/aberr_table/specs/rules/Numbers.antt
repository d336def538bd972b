-- The numbers of the rows, each by its bits. A name spells the number.
use Rattle.std.specs.Prelude.{Float}
use Rattle.double.specs.rules.Operations.{bits}

abbrev pub n1719914 : Float
n1719914 = bits 0x413a3e6a00000000

abbrev pub n2 : Float
n2 = bits 0x4000000000000000

abbrev pub n25 : Float
n25 = bits 0x4039000000000000

abbrev pub n13 : Float
n13 = bits 0x402a000000000000

abbrev pub n1578089 : Float
n1578089 = bits 0x4138146900000000

abbrev pub n156 : Float
n156 = bits 0x4063800000000000

abbrev pub n10 : Float
n10 = bits 0x4024000000000000

abbrev pub n32 : Float
n32 = bits 0x4040000000000000

abbrev pub n684185 : Float
n684185 = bits 0x4124e13200000000

abbrev pub n358 : Float
n358 = bits 0x4076600000000000

abbrev pub n6434 : Float
n6434 = bits 0x40b9220000000000

abbrev pub n141 : Float
n141 = bits 0x4061a00000000000

abbrev pub n28007 : Float
n28007 = bits 0x40db59c000000000

abbrev pub n107 : Float
n107 = bits 0x405ac00000000000

abbrev pub n25697 : Float
n25697 = bits 0x40d9184000000000

abbrev pub n95 : Float
n95 = bits 0x4057c00000000000

abbrev pub n5904 : Float
n5904 = bits 0x40b7100000000000

abbrev pub n130 : Float
n130 = bits 0x4060400000000000

abbrev pub n11141 : Float
n11141 = bits 0x40c5c28000000000

abbrev pub n48 : Float
n48 = bits 0x4048000000000000

abbrev pub n2559 : Float
n2559 = bits 0x40a3fe0000000000

abbrev pub n55 : Float
n55 = bits 0x404b800000000000

abbrev pub n715 : Float
n715 = bits 0x4086580000000000

abbrev pub n6 : Float
n6 = bits 0x4018000000000000

abbrev pub n657 : Float
n657 = bits 0x4084880000000000

abbrev pub n15 : Float
n15 = bits 0x402e000000000000

abbrev pub n282 : Float
n282 = bits 0x4071a00000000000

abbrev pub n656 : Float
n656 = bits 0x4084800000000000

abbrev pub n285 : Float
n285 = bits 0x4071d00000000000

abbrev pub n486 : Float
n486 = bits 0x407e600000000000

abbrev pub n5 : Float
n5 = bits 0x4014000000000000

abbrev pub n236 : Float
n236 = bits 0x406d800000000000

abbrev pub n4 : Float
n4 = bits 0x4010000000000000

abbrev pub n216 : Float
n216 = bits 0x406b000000000000

abbrev pub n446 : Float
n446 = bits 0x407be00000000000

abbrev pub n94 : Float
n94 = bits 0x4057800000000000

abbrev pub n193 : Float
n193 = bits 0x4068200000000000

abbrev pub n3 : Float
n3 = bits 0x4008000000000000

abbrev pub n159 : Float
n159 = bits 0x4063e00000000000

abbrev pub n147 : Float
n147 = bits 0x4062600000000000

abbrev pub n61 : Float
n61 = bits 0x404e800000000000

abbrev pub n26 : Float
n26 = bits 0x403a000000000000

abbrev pub n59 : Float
n59 = bits 0x404d800000000000

abbrev pub n39 : Float
n39 = bits 0x4043800000000000

abbrev pub n36 : Float
n36 = bits 0x4042000000000000

abbrev pub n16 : Float
n16 = bits 0x4030000000000000

abbrev pub n33 : Float
n33 = bits 0x4040800000000000

abbrev pub n9 : Float
n9 = bits 0x4022000000000000

abbrev pub n30 : Float
n30 = bits 0x403e000000000000

abbrev pub n31 : Float
n31 = bits 0x403f000000000000

abbrev pub n28 : Float
n28 = bits 0x403c000000000000

abbrev pub n12 : Float
n12 = bits 0x4028000000000000

abbrev pub n8 : Float
n8 = bits 0x4020000000000000

abbrev pub n11 : Float
n11 = bits 0x4026000000000000

abbrev pub n21 : Float
n21 = bits 0x4035000000000000

abbrev pub n19 : Float
n19 = bits 0x4033000000000000

abbrev pub n17 : Float
n17 = bits 0x4031000000000000

abbrev pub n7 : Float
n7 = bits 0x401c000000000000

abbrev pub n1 : Float
n1 = bits 0x3ff0000000000000

abbrev pub n14 : Float
n14 = bits 0x402c000000000000

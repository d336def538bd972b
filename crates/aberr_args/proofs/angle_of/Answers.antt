-- `aberr_args::angle_of` meets its contract.
use borrow.Author.Tests.{ne_eqb}
use Rattle.aberr_args.specs.rules.Row.{angle_of}
use Rattle.aberr_args.proofs.angle_of.Goals as goal

pub returns-in-1 : goal.returns-in-1
unfolding angle_of
returns-in-1 c = rw c.in-1.is

pub returns-in-2 : goal.returns-in-2
unfolding angle_of
returns-in-2 c = rw c.in-2.is

pub returns-in-3 : goal.returns-in-3
unfolding angle_of
returns-in-3 c = rw c.in-3.is

pub returns-in-4 : goal.returns-in-4
unfolding angle_of
returns-in-4 c = rw c.in-4.is

pub returns-in-5 : goal.returns-in-5
unfolding angle_of
returns-in-5 c = rw c.in-5.is

pub returns-in-6 : goal.returns-in-6
unfolding angle_of
returns-in-6 c = rw c.in-6.is

pub returns-in-7 : goal.returns-in-7
unfolding angle_of
returns-in-7 c = rw c.in-7.is

pub returns-in-8 : goal.returns-in-8
unfolding angle_of
returns-in-8 c = rw c.in-8.is

pub returns-in-9 : goal.returns-in-9
unfolding angle_of
returns-in-9 c = rw c.in-9.is

pub returns-in-10 : goal.returns-in-10
unfolding angle_of
returns-in-10 c = rw c.in-10.is

-- none of 1 to 10
pub returns-in_default : goal.returns-in_default
unfolding angle_of
returns-in_default c =
    let n = c.args.n in
    let none10 = c.in_default.in_default-own.rest in
    let none9 = none10.0 in
    let none8 = none9.0 in
    let none7 = none8.0 in
    let none6 = none7.0 in
    let none5 = none6.0 in
    let none4 = none5.0 in
    let none3 = none4.0 in
    let none2 = none3.0 in
    let none1 = none2.0 in
    rw (
      ne_eqb n 1 none1.1,
      ne_eqb n 2 none2.1,
      ne_eqb n 3 none3.1,
      ne_eqb n 4 none4.1,
      ne_eqb n 5 none5.1,
      ne_eqb n 6 none6.1,
      ne_eqb n 7 none7.1,
      ne_eqb n 8 none8.1,
      ne_eqb n 9 none9.1,
      ne_eqb n 10 none10.1,
    )

mod Hitting
mod Noting
